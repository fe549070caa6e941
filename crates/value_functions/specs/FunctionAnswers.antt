-- What a function gives, and what a call of it answers.
use Rattle.std.specs.Prelude.{◌≡◌, ℕ, ℤ, Bool, if◌then◌else◌, nat_lt, Option, Some, None, Result, Ok, Err}
use Rattle.lisp_object.specs.Object.{Object, integer, nil, object_depth, object_size}
use Rattle.lisp_object.specs.declared.datum.Datum.{Datum}
use Rattle.lisp_object.specs.declared.refusal.TheConstants.{ARGUMENT_KIND, INTEGER_RANGE, VALUE_TOO_DEEP, LIMIT}
use Rattle.lisp_object.specs.Datum.{object_of}
use Rattle.lisp_operators.specs.declared.error.EvaluationError.{EvaluationError}
use Rattle.lisp_operators.specs.declared.error.EvaluationError.TheVariants.{Refused, OutOfMemory}
use Rattle.lisp_operators.specs.Properties.{t, is_in_range}

-- a value, or the number of a refusal
abbrev pub FunctionValue : Type 0
FunctionValue = Result Object ℕ

-- T for true, and NIL for false
abbrev pub truth_value : Bool → Object
truth_value b = if b then t else nil

-- what goes on with an argument of the kind that is asked for; any other is refused
abbrev pub if_of_kind : {A : Type 0} → Option A → (A → FunctionValue) → FunctionValue
if_of_kind (Some x) on = on x
if_of_kind None on = Err ARGUMENT_KIND

-- an integer, where it has at most 128 bits
abbrev pub if_in_range : ℤ → FunctionValue
if_in_range n = if is_in_range n then Ok (integer n) else Err INTEGER_RANGE

-- what goes on with a value
abbrev pub then_value : FunctionValue → (Object → FunctionValue) → FunctionValue
then_value (Ok x) next = next x
then_value (Err code) next = Err code

-- a value that was built: of depth at most 100, and of size at most 1,000,000
abbrev pub if_within : Object → FunctionValue
if_within x =
    if nat_lt 100 (object_depth x) then Err VALUE_TOO_DEEP
    else (if nat_lt 1000000 (object_size x) then Err LIMIT else Ok x)

-- A call answers the value, or the number of the refusal. Where memory ran out it says nothing.
abbrev pub AnswersValue : Result Datum EvaluationError → FunctionValue → Type 0
AnswersValue (Ok d) said = said ≡ Ok (object_of d)
AnswersValue (Err (Refused code)) said = said ≡ Err code
AnswersValue (Err OutOfMemory) said = Unit {0}
