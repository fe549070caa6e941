-- The forms of a readtable as transactions: what each makes of the readtable, which may be written.
--     case_set, like_set, macro_set, dispatching_set, sub_set      the forms that change it
--     copy_made      the form that makes it
use Rattle.std.proofs.Common.{◌≡◌, ℕ, Bool, true, false, not, ◌||◌, ◌&&◌, List, [], ◌∷◌, ◌++◌, bytes_eq, codes, Option, Some, Ok, Err, refl, sym, ap, ◌∙◌}
use Rattle.std.specs.Prelude.{if◌then◌else◌}
use Rattle.std.specs.Option.{option_map_or}
use Rattle.std.specs.FinMap as finite
use Rattle.lisp_object.specs.Object.{Object, character, list_of, nil, pair, symbol}
use Rattle.lisp_object.specs.declared.refusal.TheConstants.{NO_MACRO, NO_READTABLE, STANDARD_READTABLE}
use Rattle.readtable_core.specs.declared.table.Case.{Case}
use Rattle.readtable_core.specs.declared.table.Case.TheVariants.{Upcase, Downcase, Preserve, Invert}
use Rattle.readtable_core.specs.Cases.{case_name}
use Rattle.readtable_core.specs.Changes.{dispatching_entry, macro_entry, with_character_entry, with_dispatch_function}
use Rattle.readtable_core.specs.Names.{is_among, is_dispatch_name, is_standard}
use Rattle.readtable_core.specs.Sound.{is_dispatching}
use Rattle.readtable_core.specs.Tables.{Table, entry_at, standard}
use Rattle.package_table.specs.Table.{Name, keyword}
use Rattle.user_macros.specs.Registry.{is_covered}
use Rattle.plist_state.specs.declared.error.ReadtableError.TheVariants.{NoReadtable}
use Rattle.plist_state.specs.Changes.{changed_readtable, with_sub_function, state_with_readtables, with_case, with_dispatch, with_dispatching, with_macro}
use Rattle.plist_state.specs.State.{WorldState, standard_name}
use Rattle.lisp_operators.specs.Evaluation.{Evaluation, also, and_then, gives, of_kind, writes}
use Rattle.lisp_operators.specs.ArgumentKinds.{case_named}
use Rattle.lisp_operators.specs.Properties.{t as t_object}
use Rattle.lisp_operators.specs.Readtables.{a_function, value_after, copy_readtable, is_function, make_dispatch, set_case, set_dispatch, set_macro, set_syntax, with_readtables}
use Rattle.evaluator.specs.Value.{value_by, values_by, value_over}
use Rattle.snapshot_text.specs.BuiltWorlds.{CanBeMade, IsSubFunction, IsWritable, with_table}
use Rattle.snapshot_text.proofs.ReadtableParts.{copied}
use Rattle.snapshot_text.proofs.TableParts.{changed_to, dispatched_is}
use Rattle.text_laws.specs.Objects.{call}
use Rattle.whole_export.proofs.ArgumentKinds.{flag}

-- a function that is covered, and is not STD-DISPATCH, may be named
pub function_may : (names : List Name) (f : Name) → is_covered names f ≡ true → is_dispatch_name f ≡ false → is_function names f ≡ true
function_may names f covered other =
    (λ i. not (other i) && (is_standard f || is_among names f)) ∙ sym (λ i. is_standard f || (other i || is_among names f)) ∙ covered

case_back : (k : Case) → case_named (case_name k) ≡ Some k
case_back Upcase = refl
case_back Downcase = refl
case_back Preserve = refl
case_back Invert = refl

module _ (names : List Name) (s : WorldState) (n : Name) where
  -- the objects are the arguments of a call, and these are their values
  abbrev Are : List Object → List Object → Type 0
  Are xs vs = values_by true names s (list_of xs) ≡ gives vs s

  abbrev name_value : Object
  name_value = symbol keyword n

  -- ---- the copy

  pub copy_made : CanBeMade s.readtables n → (z r : Object) → Are (z ∷ r ∷ []) (symbol keyword standard_name ∷ name_value ∷ [])
      → value_by true names s (call (codes "COPY-READTABLE") (z ∷ r ∷ [])) ≡ writes name_value (with_table s n standard)
  unfolding value_over
  copy_made can z r are =
      ap (λ e. and_then e copy_readtable) are ∙ ap (λ said. also false (value_after s name_value said)) (copied s n can)

  module _ (table : Table) (w : IsWritable s.readtables n table) where
    abbrev Becomes : Object → Object → Table → Type 0
    Becomes x v u = value_by true names s x ≡ writes v (with_table s n u)

    -- ---- the case

    pub case_set : (k : Case) (r y : Object) → values_by true names s (pair r nil) ≡ gives (name_value ∷ []) s
        → values_by true names s (pair y nil) ≡ gives (symbol keyword (case_name k) ∷ []) s
        → Becomes (call (codes "SETF") (call (codes "READTABLE-CASE") (r ∷ []) ∷ y ∷ [])) (symbol keyword (case_name k)) (record table { letters = k })
    unfolding value_over
    case_set k r y first second =
        let v = symbol keyword (case_name k) in
        (λ i. and_then (and_then (first i) (λ xs later. and_then (values_by true names later (pair y nil)) (λ ys end'. gives (xs ++ ys) end'))) set_case)
        ∙ (λ i. and_then (also false (and_then (second i) (λ ys end'. gives (name_value ∷ ys) end'))) set_case)
        ∙ ap (λ (o : Option Case). also false (of_kind o (λ letters. with_readtables s v (with_case s.readtables n letters)))) (case_back k)
        ∙ ap (λ said. also false (value_after s v said)) (changed_to s n table (record table { letters = k }) (λ t. Ok (record t { letters = k })) w refl)

    -- ---- a character as in the standard readtable

    pub like_set : (c d : ℕ) (x y r z : Object) → Are (x ∷ y ∷ r ∷ z ∷ []) (character c ∷ character d ∷ name_value ∷ symbol keyword standard_name ∷ [])
        → Becomes (call (codes "SET-SYNTAX-FROM-CHAR") (x ∷ y ∷ r ∷ z ∷ [])) t_object (with_character_entry table c (entry_at standard d))
    unfolding value_over
    like_set c d x y r z are =
        ap (λ e. and_then e set_syntax) are
        ∙ (λ i. also false (value_after s t_object (state_with_readtables s (option_map_or (λ z. changed_readtable s.readtables n (λ t. Ok (with_character_entry t c (entry_at z d)))) (w.standard i) (Err NoReadtable)))))
        ∙ ap (λ said. also false (value_after s t_object said)) (changed_to s n table (with_character_entry table c (entry_at standard d)) (λ t. Ok (with_character_entry t c (entry_at standard d))) w refl)

    -- ---- a macro character

    changeable_so : (on : Evaluation Object) → option_map_or (λ (t : Table). if bytes_eq n standard_name then Err STANDARD_READTABLE else on) (finite.get s.readtables n) (Err NO_READTABLE) ≡ on
    changeable_so on =
        ap (λ o. option_map_or (λ (t : Table). if bytes_eq n standard_name then Err STANDARD_READTABLE else on) o (Err NO_READTABLE)) w.there
        ∙ ap (λ b. if b then Err STANDARD_READTABLE else on) w.other

    function_so : (f : Name) (on : Evaluation Object) → is_function names f ≡ true → a_function names f on ≡ on
    function_so f on may = ap (λ b. if b then on else Err NO_MACRO) may

    pub macro_set : (c : ℕ) (f : Name) (b : Bool) (x y z r : Object) → is_function names f ≡ true → Are (x ∷ y ∷ z ∷ r ∷ []) (character c ∷ symbol keyword f ∷ flag b ∷ name_value ∷ [])
        → Becomes (call (codes "SET-MACRO-CHARACTER") (x ∷ y ∷ z ∷ r ∷ [])) t_object (with_character_entry table c (macro_entry f b))
    unfolding value_over
    macro_set c f b x y z r may are =
        let done = with_readtables s t_object (with_macro s.readtables n c f b) in
        ap (λ e. and_then e (set_macro names)) are ∙ by_flag b
        ∙ ap (also false) (changeable_so (a_function names f done) ∙ function_so f done may)
        ∙ ap (λ said. also false (value_after s t_object said)) (changed_to s n table (with_character_entry table c (macro_entry f b)) (λ t. Ok (with_character_entry t c (macro_entry f b))) w refl)
      where
        by_flag : (b : Bool) → also false (set_macro names (character c ∷ symbol keyword f ∷ flag b ∷ name_value ∷ []) s)
            ≡ also false (option_map_or (λ (t : Table). if bytes_eq n standard_name then Err STANDARD_READTABLE else a_function names f (with_readtables s t_object (with_macro s.readtables n c f b))) (finite.get s.readtables n) (Err NO_READTABLE))
        by_flag true = refl
        by_flag false = refl

    -- ---- a dispatching character, and its sub-characters

    pub dispatching_set : (c : ℕ) (b : Bool) (x z r : Object) → Are (x ∷ z ∷ r ∷ []) (character c ∷ flag b ∷ name_value ∷ [])
        → Becomes (call (codes "MAKE-DISPATCH-MACRO-CHARACTER") (x ∷ z ∷ r ∷ [])) t_object (with_character_entry table c (dispatching_entry b))
    unfolding value_over
    dispatching_set c b x z r are =
        ap (λ e. and_then e make_dispatch) are ∙ by_flag b
        ∙ ap (λ said. also false (value_after s t_object said)) (changed_to s n table (with_character_entry table c (dispatching_entry b)) (λ t. Ok (with_character_entry t c (dispatching_entry b))) w refl)
      where
        by_flag : (b : Bool) → also false (make_dispatch (character c ∷ flag b ∷ name_value ∷ []) s) ≡ also false (with_readtables s t_object (with_dispatching s.readtables n c b))
        by_flag true = refl
        by_flag false = refl

    pub sub_set : (c sub : ℕ) (f : Name) (x y z r : Object) → is_function names f ≡ true → IsSubFunction s.packages sub f → is_dispatching (entry_at table c) ≡ true
        → Are (x ∷ y ∷ z ∷ r ∷ []) (character c ∷ character sub ∷ symbol keyword f ∷ name_value ∷ [])
        → Becomes (call (codes "SET-DISPATCH-MACRO-CHARACTER") (x ∷ y ∷ z ∷ r ∷ [])) t_object (with_character_entry table c (with_dispatch_function (entry_at table c) sub f))
    unfolding value_over
    sub_set c sub f x y z r may is dispatches are =
        let done = with_readtables s t_object (with_dispatch s.readtables n c sub f) in
        ap (λ e. and_then e (set_dispatch names)) are
        ∙ ap (also false) (changeable_so (a_function names f done) ∙ function_so f done may)
        ∙ ap (λ said. also false (value_after s t_object said)) (changed_to s n table (with_character_entry table c (with_dispatch_function (entry_at table c) sub f)) (λ t. with_sub_function t c sub f) w
        (dispatched_is s.packages table c sub f is dispatches))
