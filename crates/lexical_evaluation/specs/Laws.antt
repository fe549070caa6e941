-- What holds of the language with functions, beside the language without them.
use Rattle.std.specs.Prelude.{◌≡◌, ◌⊎◌, ℕ, true, false, List, [], Ok, Err}
use Rattle.std.specs.List.{list_any}
use Rattle.lisp_object.specs.Object.{Object}
use Rattle.lisp_object.specs.declared.refusal.TheConstants.{UNKNOWN_OPERATOR}
use Rattle.kept_functions.specs.declared.bounds.TheConstants.{TOO_MANY_STEPS}
use Rattle.package_table.specs.Table.{Name}
use Rattle.plist_state.specs.State.{WorldState}
use Rattle.user_macros.specs.Calls.{MacroCall}
use Rattle.user_macros.specs.Functions.{Functions}
use Rattle.lisp_operators.specs.Evaluation.{Done}
use Rattle.evaluator.specs.Value.{value}
use Rattle.lexical_evaluation.specs.Calls.{lexical_value, value_with_functions}
use Rattle.evaluator.specs.FormsGivenBack.{asks_for_functions}
use Rattle.kept_functions.specs.ReaderFunctions.{is_lisp_name, own_readers}
use Rattle.lexical_evaluation.specs.InForce.{functions_in_force}

-- a form that had a value keeps it, and the state that it left
abbrev pub OldFormsKeepTheirValues : Type 0
OldFormsKeepTheirValues =
    (names : List Name) (s : WorldState) (x : Object) (d : Done Object)
    → value names s x ≡ Ok d → value_with_functions names s x ≡ Ok d

-- A form that was refused, but not for want of an operator or a macro function, is refused under the same number.
abbrev pub OldRefusalsStay : Type 0
OldRefusalsStay =
    (names : List Name) (s : WorldState) (x : Object) (code : ℕ)
    → value names s x ≡ Err code → asks_for_functions code ≡ false → value_with_functions names s x ≡ Err code

-- The language with functions says the same of a form without them, where the steps suffice: so nothing changes in a form where a
-- call is put into it.
abbrev pub LanguagesAgree : Type 0
LanguagesAgree =
    (names : List Name) (s : WorldState) (x : Object) (d : Done Object)
    → own_readers s ≡ [] → value names s x ≡ Ok d
    → (lexical_value names s x ≡ Err TOO_MANY_STEPS → ⊥) → lexical_value names s x ≡ Ok d

-- A form that is refused in the language without functions, but not for want of an operator, is refused in the one with them, under the same
-- number or for want of steps.
abbrev pub RefusalsAgree : Type 0
RefusalsAgree =
    (names : List Name) (s : WorldState) (x : Object) (number : ℕ)
    → value names s x ≡ Err number → (number ≡ UNKNOWN_OPERATOR → ⊥)
    → (code : ℕ) × (lexical_value names s x ≡ Err code) × ((code ≡ number) ⊎ (code ≡ TOO_MANY_STEPS))

-- In a world without macro functions of its own those of the program are in force, but for names that no program may have.
abbrev pub OldWorldsReadTheSame : Type 0
OldWorldsReadTheSame =
    (program : Functions) (s : WorldState) → own_readers s ≡ []
    → list_any is_lisp_name program.names ≡ false
    → (name : Name) → is_lisp_name name ≡ false
    → ((functions_in_force program s).way name ≡ program.way name)
    × ((call : MacroCall) → (functions_in_force program s).answer name call ≡ program.answer name call)

-- and of the names of the world no program says anything
abbrev pub OwnNamesNeedNoProgram : Type 0
OwnNamesNeedNoProgram =
    (one other : Functions) (s : WorldState) (name : Name) → is_lisp_name name ≡ true
    → ((functions_in_force one s).way name ≡ (functions_in_force other s).way name)
    × ((call : MacroCall) → (functions_in_force one s).answer name call ≡ (functions_in_force other s).answer name call)
