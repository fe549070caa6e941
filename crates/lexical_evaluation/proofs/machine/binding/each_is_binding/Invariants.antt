use Rattle.std.proofs.Common.{◌≡◌, drop}
use Rattle.std.specs.List.{list_all}
use Rattle.lisp_operators.specs.EvaluationAnswers.{objects}
use Rattle.lexical_evaluation.specs.Values.{is_binding}
use Rattle.lexical_evaluation.proofs.machine.binding.each_is_binding.Given as goal

-- all are, if those that are left are
abbrev pub invariant-loop-item : goal.invariant-loop-item
invariant-loop-item l = list_all is_binding (objects (drop l.item-index l.items)) ≡ list_all is_binding (objects l.items)
