-- What the calls that write make of a state, or the first reason for which they refuse. The calls on packages are those of
-- package_table.
use Rattle.std.specs.Prelude.{◌≡◌, ℕ, Bool, not, ◌&&◌, nat_le, bytes_eq, if◌then◌else◌, Option, Result, Ok, Err, IsOk}
use Rattle.std.specs.Option.{option_map_or}
use Rattle.std.specs.FinMap as finite
use Rattle.lisp_object.specs.Object.{Object}
use Rattle.readtable_core.specs.declared.table.Case.{Case}
use Rattle.readtable_core.specs.declared.refusal.DispatchRefusal.{DispatchRefusal}
use Rattle.readtable_core.specs.declared.refusal.DispatchRefusal.TheVariants.{NotDispatching as NoDispatch, DigitSubcharacter as Digit}
use Rattle.readtable_core.specs.Tables.{Table, entry_at}
use Rattle.readtable_core.specs.Changes.{with_character_entry, macro_entry, dispatching_entry, with_dispatch_function, dispatch_refusal}
use Rattle.package_table.specs.declared.error.PackageError.{PackageError}
use Rattle.package_table.specs.declared.error.PackageError.TheVariants.{NoSuchPackage}
use Rattle.package_table.specs.Table as packages
use Rattle.package_table.specs.Table.{Name}
use Rattle.plist_state.specs.declared.error.ReadtableError.{ReadtableError}
use Rattle.plist_state.specs.declared.error.ReadtableError.TheVariants.{NoReadtable, StandardReadtable, NotDispatching, DigitSubcharacter, Limit, OutOfMemory}
use Rattle.plist_state.specs.Properties.{Symbol, Plist, value_at, with_value, without_value, list_at, with_list}
use Rattle.plist_state.specs.State.{Readtables, WorldState, standard_name}

-- the property list of a symbol (standard 10.2, SYMBOL-PLIST)
abbrev pub plist : WorldState → Symbol → Plist
plist s x = list_at s.properties x

-- the value of a property (standard 10.2, GET)
abbrev pub property : WorldState → Symbol → Symbol → Option Object
property s x i = value_at (plist s x) i

-- the world in which the symbol x has the value v beside the indicator i
abbrev pub with_property : WorldState → Symbol → Symbol → Object → WorldState
with_property s x i v = record s { properties = with_list s.properties x (with_value (plist s x) i v) }

-- the world in which the symbol x has no value beside the indicator i, as after REMPROP (standard 10.2)
abbrev pub without_property : WorldState → Symbol → Symbol → WorldState
without_property s x i = record s { properties = with_list s.properties x (without_value (plist s x) i) }

-- the world with these packages, and all else as it was
abbrev pub with_packages : WorldState → packages.Table → WorldState
with_packages s t = record s { packages = t }

-- IN-PACKAGE (standard 11.2)
abbrev pub after_in_package : WorldState → Name → Result WorldState PackageError
after_in_package s n = if finite.contains_key s.packages n then Ok (record s { current_package = n }) else Err NoSuchPackage

-- the readtable of this name becomes current
abbrev pub after_in_readtable : WorldState → Name → Result WorldState ReadtableError
after_in_readtable s n = if finite.contains_key s.readtables n then Ok (record s { current_readtable = n }) else Err NoReadtable

-- numbers are read in this base from now on (standard 23.1.1, *READ-BASE*)
abbrev pub with_base : WorldState → ℕ → WorldState
with_base s base = record s { read_base = base }

-- ---- readtables
-- the readtable of this name where it may be written: the standard one never changes
abbrev pub writable : Readtables → Name → Result Table ReadtableError
writable m n = option_map_or (λ t. if bytes_eq n standard_name then Err StandardReadtable else Ok t) (finite.get m n) (Err NoReadtable)

-- with what was made of the readtable of this name
abbrev pub put_changed : Readtables → Name → Result Table ReadtableError → Result Readtables ReadtableError
put_changed m n (Ok t) = Ok (finite.insert m n t)
put_changed m n (Err e) = Err e

-- with what a change of the readtable of this name gives
abbrev pub readtables_with_change : Readtables → Name → (Table → Result Table ReadtableError) → Result Table ReadtableError → Result Readtables ReadtableError
readtables_with_change m n change (Ok t) = put_changed m n (change t)
readtables_with_change m n change (Err e) = Err e

-- the readtable of this name after a change; none changes the standard one
abbrev pub changed_readtable : Readtables → Name → (Table → Result Table ReadtableError) → Result Readtables ReadtableError
changed_readtable m n change = readtables_with_change m n change (writable m n)

-- the case (standard 23.2, READTABLE-CASE)
abbrev pub with_case : Readtables → Name → Case → Result Readtables ReadtableError
with_case m n letters = changed_readtable m n (λ t. Ok (record t { letters = letters }))

-- SET-MACRO-CHARACTER (standard 23.2)
abbrev pub with_macro : Readtables → Name → ℕ → Name → Bool → Result Readtables ReadtableError
with_macro m n c f non_terminating = changed_readtable m n (λ t. Ok (with_character_entry t c (macro_entry f non_terminating)))

-- MAKE-DISPATCH-MACRO-CHARACTER (standard 23.2)
abbrev pub with_dispatching : Readtables → Name → ℕ → Bool → Result Readtables ReadtableError
with_dispatching m n c non_terminating = changed_readtable m n (λ t. Ok (with_character_entry t c (dispatching_entry non_terminating)))

-- the refusal of a readtable, as the world gives it
abbrev pub readtable_error_of : DispatchRefusal → ReadtableError
readtable_error_of NoDispatch = NotDispatching
readtable_error_of Digit = DigitSubcharacter

-- a readtable with a function at a sub-character
abbrev pub with_sub_function : Table → ℕ → ℕ → Name → Result Table ReadtableError
with_sub_function t c sub f =
    option_map_or (λ r. Err (readtable_error_of r)) (dispatch_refusal t c sub) (Ok (with_character_entry t c (with_dispatch_function (entry_at t c) sub f)))

-- SET-DISPATCH-MACRO-CHARACTER (standard 23.2)
abbrev pub with_dispatch : Readtables → Name → ℕ → ℕ → Name → Result Readtables ReadtableError
with_dispatch m n c sub f = changed_readtable m n (λ t. with_sub_function t c sub f)

-- SET-SYNTAX-FROM-CHAR (standard 23.2): the character c of the readtable n gets what d has in the readtable o. That both
-- are there is looked at first.
abbrev pub with_syntax : Readtables → Name → ℕ → Name → ℕ → Result Readtables ReadtableError
with_syntax m n c o d =
    option_map_or (λ z. changed_readtable m n (λ t. Ok (with_character_entry t c (entry_at z d)))) (finite.get m o) (Err NoReadtable)

-- COPY-READTABLE (standard 23.2): the readtable n is made, or written over, as the readtable o is. There are at most 64.
abbrev pub with_copy : Readtables → Name → Name → Result Readtables ReadtableError
with_copy m o n =
    option_map_or (λ t.
    if bytes_eq n standard_name then Err StandardReadtable
    else (if not (finite.contains_key m n) && nat_le 64 (finite.len m) then Err Limit
    else Ok (finite.insert m n t))) (finite.get m o) (Err NoReadtable)

-- a change of the readtables of a state
abbrev pub state_with_readtables : WorldState → Result Readtables ReadtableError → Result WorldState ReadtableError
state_with_readtables s (Ok m) = Ok (record s { readtables = m })
state_with_readtables s (Err e) = Err e

-- A call answers what the definition says. That a growth was refused it answers only where the definition refuses nothing.
abbrev pub Refused : {B : Type 0} → ReadtableError → Result B ReadtableError → Type 0
Refused OutOfMemory said = IsOk said
Refused e said = said ≡ Err e

-- what was answered is what the definition gives, or its refusal
abbrev pub AnswersReadtables : {A B : Type 0} → (A → B) → Result A ReadtableError → Result B ReadtableError → Type 0
AnswersReadtables view (Ok x) said = said ≡ Ok (view x)
AnswersReadtables view (Err e) said = Refused e said
