-- Macro functions of the world.
--     way_of_list      a way that is no symbol is written down by its items
--     reader_found, reader_missing      the macro function of a name
use Rattle.std.proofs.Common.{◌≡◌, true, false, cond, List, Option, Some, None, option_and_then, refl, sym, ap, ◌∙◌}
use Rattle.std.proofs.lemmas.Bool.{false≢true}
use Rattle.lisp_object.specs.declared.datum.Datum
use Rattle.lisp_object.specs.declared.datum.Datum.{Datum}
use Rattle.lisp_object.specs.Object.{Object, integer, rational, character, text, symbol, uninterned, pair, vector}
use Rattle.lisp_object.specs.Datum.{object_of, is_proper}
use Rattle.package_table.specs.Table.{Name, keyword}
use Rattle.plist_state.specs.State.{WorldState}
use Rattle.plist_state.specs.Changes.{property}
use Rattle.lisp_operators.specs.ArgumentKinds.{is_pair}
use Rattle.lisp_operators.proofs.Shapes.{pair_at}
use Rattle.value_functions.specs.Sequences.{items_of}
use Rattle.kept_functions.specs.ReaderFunctions.{way_written, way_by_items, is_lisp_name, reader_function_in, reader_definition_of, reader_indicator, ReaderDefinition}

way_of_pair : (x : Object) → true ≡ is_pair x → option_and_then way_by_items (items_of x) ≡ way_written x
way_of_pair (pair a b) is = refl
way_of_pair (integer n) is = refl
way_of_pair (rational n d) is = refl
way_of_pair (character c) is = refl
way_of_pair (text b) is = refl
way_of_pair (symbol h n) is = absurd (false≢true (sym is))
way_of_pair (uninterned n) is = refl
way_of_pair (vector xs) is = refl

pub way_of_list : (d : Datum) (items : List Datum) (tail : Option Datum) → d ≡ Datum.List items tail → is_proper d ≡ true
    → option_and_then way_by_items (items_of (object_of d)) ≡ way_written (object_of d)
way_of_list d items tail is proper = way_of_pair (object_of d) (pair_at is_pair true d items tail (λ _ _. refl) is proper)

pub reader_found : (s : WorldState) (name : Name) (x : Object) → is_lisp_name name ≡ true → Some x ≡ property s (keyword, name) reader_indicator
    → reader_function_in s name ≡ reader_definition_of x
reader_found s name x own is =
    ap (λ b. cond {A = Option ReaderDefinition} b (option_and_then reader_definition_of (property s (keyword, name) reader_indicator)) None) own
    ∙ ap (option_and_then reader_definition_of) (sym is)

pub reader_missing : (s : WorldState) (name : Name) → is_lisp_name name ≡ true → None ≡ property s (keyword, name) reader_indicator → None ≡ reader_function_in s name
reader_missing s name own none =
    sym (ap (λ b. cond {A = Option ReaderDefinition} b (option_and_then reader_definition_of (property s (keyword, name) reader_indicator)) None) own
    ∙ ap (option_and_then reader_definition_of) (sym none))
