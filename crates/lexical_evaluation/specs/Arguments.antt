-- Data that are arguments of a world with these packages: of what waits, of variables, and of what is done next.
use Rattle.std.specs.Prelude.{List, All, Result, Ok, Err}
use Rattle.lisp_object.specs.Object.{list_of}
use Rattle.lisp_object.specs.declared.datum.Datum.{Datum}
use Rattle.package_table.specs.Table.{Table, AreSoundPackages}
use Rattle.plist_state.specs.Sound.{IsValue}
use Rattle.lisp_operators.specs.EvaluationAnswers.{IsArgument, objects}
use Rattle.lisp_operators.specs.declared.error.EvaluationError.{EvaluationError}
use Rattle.lexical_evaluation.specs.declared.frame.Target.{Target}
use Rattle.lexical_evaluation.specs.declared.frame.Target.TheVariants.{Function, Written, Define, DefineReader}
use Rattle.lexical_evaluation.specs.declared.frame.Awaiting.{Awaiting}
use Rattle.lexical_evaluation.specs.declared.frame.Awaiting.TheVariants.{Arguments, Sequence, Choice, Seek, Clause, Guard, Assert, Bind, Scope, Call}
use Rattle.lexical_evaluation.specs.declared.machine.Machine.{Machine}
use Rattle.lexical_evaluation.specs.declared.machine.NextStep.{NextStep}
use Rattle.lexical_evaluation.specs.declared.machine.NextStep.TheVariants.{Evaluate, Give, Finish}
use Rattle.kept_functions.specs.declared.environment.Binding.{Binding}
use Rattle.lexical_evaluation.specs.declared.machine.applying.Callee.{Callee}
use Rattle.lexical_evaluation.specs.declared.machine.applying.Callee.TheVariants.{Written as Lambda, Named, Valued}

abbrev pub AreArguments : Table → List Datum → Type 0
AreArguments u ds = All (IsArgument u) ds

-- the value of each variable is one
abbrev pub HaveArguments : Table → List Binding → Type 0
HaveArguments u bindings = All (λ b. IsArgument u b.value) bindings

-- what is done with values that are made one after the other; DEFUN and DEFINE-READER take theirs as they are written
abbrev pub IsTargetOf : Table → Target → Type 0
IsTargetOf u (Function x) = IsArgument u x
IsTargetOf u (Written parts) = AreArguments u parts.items
IsTargetOf u Define = ⊥
IsTargetOf u DefineReader = ⊥
IsTargetOf u _ = Unit {0}

-- and with these values, which DEFUN and DEFINE-READER store as a list
abbrev pub MayFinish : Table → Target → List Datum → Type 0
MayFinish u Define values = IsValue u (list_of (objects values))
MayFinish u DefineReader values = IsValue u (list_of (objects values))
MayFinish u target values = IsTargetOf u target

-- the function that a form stands for
abbrev pub IsCalleeOf : Table → Callee → Type 0
IsCalleeOf u (Lambda parts) = AreArguments u parts.items
IsCalleeOf u (Named name) = IsArgument u name
IsCalleeOf u (Valued form) = IsArgument u form

-- what waits for a value
abbrev pub IsFrameOf : Table → Awaiting → Type 0
IsFrameOf u (Arguments target forms values) = IsTargetOf u target × AreArguments u forms.items × AreArguments u values.items
IsFrameOf u (Sequence forms) = AreArguments u forms.items
IsFrameOf u (Choice forms) = AreArguments u forms.items
IsFrameOf u (Seek truth forms) = AreArguments u forms.items
IsFrameOf u (Clause forms others) = AreArguments u forms.items × AreArguments u others.items
IsFrameOf u (Guard truth forms) = AreArguments u forms.items
IsFrameOf u Assert = Unit {0}
IsFrameOf u (Bind in_turn x others made forms) = AreArguments u others.items × HaveArguments u made.items × AreArguments u forms.items
IsFrameOf u (Scope length) = Unit {0}
IsFrameOf u (Call before deeper) = HaveArguments u before.items

-- all that a machine holds
pub record IsMachineOf (u : Table) (m : Machine) : Type 0 where
  pub sound : AreSoundPackages u
  pub frames : All (IsFrameOf u) m.frames.items
  pub bindings : HaveArguments u m.bindings.items

-- what is done next
abbrev pub IsNextOf : Table → NextStep → Type 0
IsNextOf u (Evaluate form) = IsArgument u form
IsNextOf u (Give value) = IsArgument u value
IsNextOf u (Finish target values) = MayFinish u target values.items × AreArguments u values.items

-- what a step leaves; where it is refused the evaluation ends
abbrev pub IsLeftOf : Table → Machine → Result NextStep EvaluationError → Type 0
IsLeftOf u m (Ok next) = IsMachineOf u m × IsNextOf u next
IsLeftOf u m (Err error) = Unit {0}

-- A step makes no data but arguments of the same packages, where this holds of what it was handed.
abbrev pub StepsToArguments : Machine → Machine → Result NextStep EvaluationError → (Table → Type 0) → Type 0
StepsToArguments old new result Given = (u : Table) → IsMachineOf u old → Given u → IsLeftOf u new result

-- The same, where packages may grow: from the first of these to the second.
abbrev pub StepsToGrown : Table → Table → Machine → Machine → Result NextStep EvaluationError → Type 0
StepsToGrown u v old new result = IsMachineOf u old → IsLeftOf v new result
