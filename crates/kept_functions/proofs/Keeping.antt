-- A definition that is put beside an indicator.
--     indicator_by_parts, definable_by_parts, reader_name_by_parts      by the home and the name of a symbol
--     text_argument, two_arguments      arguments of INTERN
--     set_arguments      what INTERN leaves, with a name and a definition, are arguments of SETF
use Rattle.std.proofs.Common.{◌≡◌, Bool, true, false, ◌&&◌, not, if◌then◌else◌, List, [], ◌∷◌, ◌++◌, All, Option, Some, None, is_some, option_and_then, Ok, bytes_eq, refl, sym, subst}
use Rattle.std.specs.Option.{option_map_or}
use Rattle.std.proofs.lemmas.List.Elements.{All-cons, All-nil}
use Rattle.lisp_object.specs.declared.datum.Datum.{Datum}
use Rattle.lisp_object.specs.Object.{Object, integer, rational, character, text, symbol, uninterned, pair, vector}
use Rattle.lisp_object.specs.Datum.{object_of, is_proper}
use Rattle.lisp_object.proofs.Sound.{all_below}
use Rattle.package_table.specs.Table.{Name, Table, keyword}
use Rattle.package_table.specs.Growth.{Grows}
use Rattle.plist_state.specs.Properties.{Symbol}
use Rattle.plist_state.specs.State.{WorldState}
use Rattle.plist_state.specs.Sound.{IsValue, IsSoundWorldState}
use Rattle.lisp_operators.specs.ArgumentKinds.{a_symbol}
use Rattle.lisp_operators.specs.Packages.{intern}
use Rattle.lisp_operators.specs.EvaluationAnswers.{IsArgument, IsAscii}
use Rattle.lisp_operators.proofs.Good.{Goods, IsGood}
use Rattle.lisp_operators.proofs.Storable.{text_value, value_grown}
use Rattle.lisp_operators.proofs.SoundPackages.{intern_safe}
use Rattle.evaluator.specs.Operators.{pazturrok}
use Rattle.kept_functions.specs.Definitions.{is_undefinable, own_indicator, a_definable}
use Rattle.kept_functions.specs.ReaderFunctions.{is_lisp_name, own_reader_name}

-- ---- the indicator
abbrev indicator_if : Symbol → Bool → Option Symbol
indicator_if i b = if b then Some i else None

pub indicator_by_parts : (i : Symbol) (x : Object) → own_indicator i x ≡ option_map_or (λ p. indicator_if i (bytes_eq p.0 i.0 && bytes_eq p.1 i.1)) (a_symbol x) None
indicator_by_parts i (integer n) = refl
indicator_by_parts i (rational n d) = refl
indicator_by_parts i (character c) = refl
indicator_by_parts i (text b) = refl
indicator_by_parts i (symbol h n) = refl
indicator_by_parts i (uninterned n) = refl
indicator_by_parts i (pair a b) = refl
indicator_by_parts i (vector xs) = refl

-- ---- arguments
pub text_argument : (u : Table) (d : Datum) (characters : Name) → IsAscii characters → object_of d ≡ text characters → is_proper d ≡ true → IsArgument u d
text_argument u d characters ascii is proper =
    record { proper = proper; value = subst (IsValue u) (sym is) (text_value u characters (all_below characters ascii)) }

pub two_arguments : (u : Table) (ds : List Datum) (a b : Datum) → ds ≡ ([] ++ a ∷ []) ++ b ∷ [] → IsArgument u a → IsArgument u b → All (IsArgument u) ds
two_arguments u ds a b is first second = subst (All (IsArgument u)) (sym is) (All-cons (IsArgument u) a (b ∷ []) first (All-cons (IsArgument u) b [] second (All-nil (IsArgument u))))

-- what INTERN leaves: a sound state, whose packages have grown, and a value of it
after_intern : (s t : WorldState) (characters : Name) (x : Object) (wrote : Bool) → IsSoundWorldState s → IsAscii characters
    → intern (text characters ∷ text pazturrok ∷ []) s ≡ Ok (record { value = x; state = t; wrote = wrote })
    → IsGood IsValue s (record { value = x; state = t; wrote = wrote })
after_intern s t characters x wrote sound ascii is =
    (subst (Goods IsValue s) is (intern_safe (text characters ∷ text pazturrok ∷ []) s sound
    (All-cons (IsValue s.packages) (text characters) (text pazturrok ∷ []) (text_value s.packages characters (all_below characters ascii))
    (All-cons (IsValue s.packages) (text pazturrok) [] (text_value s.packages pazturrok (all_below pazturrok refl)) (All-nil (IsValue s.packages)))))).good

argument_grown : (u v : Table) → Grows u v → (d : Datum) → IsArgument u d → IsArgument v d
argument_grown u v grows d is = record { proper = is.proper; value = value_grown u v grows (object_of d) is.value }

-- so the name, the indicator and the definition may be set
pub set_arguments : (s t : WorldState) (characters : Name) (found name definition : Datum) (wrote : Bool) (ds : List Datum) → IsSoundWorldState s → IsAscii characters
    → intern (text characters ∷ text pazturrok ∷ []) s ≡ Ok (record { value = object_of found; state = t; wrote = wrote })
    → is_proper found ≡ true → IsArgument s.packages name → IsArgument s.packages definition → ds ≡ name ∷ found ∷ definition ∷ [] → All (IsArgument t.packages) ds
set_arguments s t characters found name definition wrote ds sound ascii is proper first third same =
    let good = after_intern s t characters (object_of found) wrote sound ascii is in
    let P = IsArgument t.packages in
    subst (All P) (sym same)
    (All-cons P name (found ∷ definition ∷ []) (argument_grown s.packages t.packages good.grows name first)
    (All-cons P found (definition ∷ []) (record { proper = proper; value = good.value })
    (All-cons P definition [] (argument_grown s.packages t.packages good.grows definition third) (All-nil P))))

-- ---- what may have a definition
symbol_if : (b : Bool) (x : Symbol) → is_some (if b then Some x else None) ≡ b
symbol_if true x = refl
symbol_if false x = refl

pub definable_by_parts : (x : Object) → is_some (a_definable x) ≡ option_map_or (λ p. not (is_undefinable p.0)) (a_symbol x) false
definable_by_parts (integer n) = refl
definable_by_parts (rational n d) = refl
definable_by_parts (character c) = refl
definable_by_parts (text b) = refl
definable_by_parts (symbol h n) = symbol_if (not (is_undefinable h)) (h, n)
definable_by_parts (uninterned n) = refl
definable_by_parts (pair a b) = refl
definable_by_parts (vector xs) = refl

pub reader_name_by_parts : (x : Object) → is_some (own_reader_name x) ≡ option_map_or (λ p. bytes_eq p.0 keyword && is_lisp_name p.1) (a_symbol x) false
reader_name_by_parts (integer n) = refl
reader_name_by_parts (rational n d) = refl
reader_name_by_parts (character c) = refl
reader_name_by_parts (text b) = refl
reader_name_by_parts (symbol h n) = tested (bytes_eq h keyword) (is_lisp_name n)
  where
    inner : (c : Bool) → is_some (if c then Some n else None) ≡ c
    inner true = refl
    inner false = refl

    tested : (a b : Bool) → is_some (option_and_then (λ name. if is_lisp_name name then Some name else None) (if a then Some n else None)) ≡ (a && is_lisp_name n)
    tested true b = inner (is_lisp_name n)
    tested false b = refl
reader_name_by_parts (uninterned n) = refl
reader_name_by_parts (pair a b) = refl
reader_name_by_parts (vector xs) = refl
