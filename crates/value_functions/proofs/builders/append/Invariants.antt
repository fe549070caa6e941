use Rattle.std.proofs.Common.{◌≡◌, Ok, drop}
use Rattle.lisp_object.specs.Object.{pairs}
use Rattle.lisp_operators.specs.EvaluationAnswers.{AreProper, objects}
use Rattle.value_functions.specs.FunctionAnswers.{then_value}
use Rattle.value_functions.specs.Building.{appended_lists}
use Rattle.value_functions.proofs.builders.append.Given as goal

abbrev pub invariant-loop-at : goal.invariant-loop-at
invariant-loop-at l = record {
  left : appended_lists (objects l.values) ≡ then_value (appended_lists (objects (drop l.at l.values))) (λ end. Ok (pairs (objects l.joined.items) end));
  proper : AreProper l.joined.items;
}
