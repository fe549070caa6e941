-- A step of a machine: what it comes to.
use Rattle.std.specs.Prelude.{◌≡◌, Result, Ok, Err}
use Rattle.lisp_object.specs.Object.{Object}
use Rattle.lisp_object.specs.Datum.{object_of}
use Rattle.package_table.specs.Table.{Table}
use Rattle.plist_state.specs.State.{WorldState}
use Rattle.lisp_operators.specs.EvaluationAnswers.{IsArgument}
use Rattle.lisp_operators.specs.declared.error.EvaluationError.{EvaluationError}
use Rattle.lisp_operators.specs.declared.error.EvaluationError.TheVariants.{Refused, OutOfMemory}
use Rattle.kept_functions.specs.Counting.{Counting}
use Rattle.lexical_evaluation.specs.declared.machine.Machine.{Machine}
use Rattle.lexical_evaluation.specs.declared.machine.Stepped.{Stepped}
use Rattle.lexical_evaluation.specs.declared.machine.Stepped.TheVariants.{GoesOn, Reached}
use Rattle.lexical_evaluation.specs.Machine.{Ways, comes_to, next_value, point_of}
use Rattle.lexical_evaluation.specs.Arguments.{IsMachineOf, IsNextOf}

-- What is done next comes to this; or this is the value that is reached, or the refusal. Where memory ran out it says nothing.
abbrev pub StepsTo : Ways → WorldState → Counting Object → Machine → Result Stepped EvaluationError → Type 0
StepsTo w s o m (Ok (GoesOn next)) = o ≡ comes_to w m (next_value w s m next)
StepsTo w s o m (Ok (Reached value)) = o ≡ Ok (record { value = object_of value; point = point_of m s; wrote = m.wrote })
StepsTo w s o m (Err (Refused code)) = o ≡ Err code
StepsTo w s o m (Err OutOfMemory) = Unit {0}

-- All data that go on are arguments of these packages, and so is the value.
abbrev pub IsSteppedOf : Table → Machine → Result Stepped EvaluationError → Type 0
IsSteppedOf u m (Ok (GoesOn next)) = IsMachineOf u m × IsNextOf u next
IsSteppedOf u m (Ok (Reached value)) = IsArgument u value
IsSteppedOf u m (Err error) = Unit {0}
