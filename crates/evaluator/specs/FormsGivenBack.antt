-- A form that is carried out, and comes back where it is refused for want of a function.
use Rattle.std.specs.Prelude.{◌≡◌, ℕ, Bool, false, ◌==◌, ◌||◌, Option, Some, None, Result, Ok, Err}
use Rattle.lisp_object.specs.declared.datum.Datum.{Datum}
use Rattle.lisp_object.specs.declared.refusal.TheConstants.{UNKNOWN_OPERATOR, NO_MACRO}
use Rattle.lisp_operators.specs.declared.error.EvaluationError.{EvaluationError}
use Rattle.lisp_operators.specs.declared.error.EvaluationError.TheVariants.{Refused, OutOfMemory}

-- The language without functions refuses by these numbers what only the one with functions may know: an operator, or a macro function.
abbrev pub asks_for_functions : ℕ → Bool
asks_for_functions code = code == UNKNOWN_OPERATOR || code == NO_MACRO

-- a refusal for want of an operator or a macro function
abbrev pub wants_function : EvaluationError → Bool
wants_function (Refused code) = asks_for_functions code
wants_function OutOfMemory = false

-- what was written, or the refusal without the form
abbrev pub without_form : Result Bool (EvaluationError × Option Datum) → Result Bool EvaluationError
without_form (Ok wrote) = Ok wrote
without_form (Err refused) = Err refused.0

-- beside a refusal for want of a function the form is given back as it was
abbrev pub GivesBack : Datum → EvaluationError × Option Datum → Type 0
GivesBack form (error, Some back) = back ≡ form
GivesBack form (error, None) = wants_function error ≡ false
