-- A list that is built of one value after the other.
use Rattle.std.specs.Prelude.{◌≡◌, ◌≤◌, ◌<◌, List, Result, IfOk}
use Rattle.lisp_object.specs.Object.{Object, list_of, depth_along, size_along}
use Rattle.plist_state.specs.State.{WorldState}
use Rattle.lisp_operators.specs.declared.error.EvaluationError.{EvaluationError}
use Rattle.lisp_operators.specs.declared.evaluated.Evaluated.{Evaluated}
use Rattle.lisp_operators.specs.declared.list_builder.ListBuilder.{ListBuilder}
use Rattle.lisp_operators.specs.declared.list_builder.ListBuilder.TheVariants.{Within, TooDeep, TooLarge}
use Rattle.lisp_operators.specs.EvaluationAnswers.{Answers, done, AreProper, IsProperValue, objects}
use Rattle.lisp_operators.specs.Properties.{list}

-- Of these values it holds all while their list is of depth at most 100 and of size at most 1,000,000, and then which of the
-- two it is not, the depth first.
abbrev pub HoldsList : List Object → ListBuilder → Type 0
HoldsList xs (Within values size) =
    (objects values.items ≡ xs) × AreProper values.items × (size ≡ size_along (list_of xs)) × (size < 1000000) × (depth_along (list_of xs) < 100)
HoldsList xs TooDeep = 100 ≤ depth_along (list_of xs)
HoldsList xs TooLarge = (depth_along (list_of xs) < 100) × (1000000 ≤ size_along (list_of xs))

-- the list of these values, or its refusal, in any state
abbrev pub AnswersList : List Object → Result Evaluated EvaluationError → Type 0
AnswersList xs result = ((s : WorldState) → Answers done result s (list xs s)) × IfOk result IsProperValue
