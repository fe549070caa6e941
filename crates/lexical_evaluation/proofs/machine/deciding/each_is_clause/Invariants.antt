use Rattle.std.proofs.Common.{◌≡◌, drop}
use Rattle.std.specs.List.{list_all}
use Rattle.lisp_operators.specs.EvaluationAnswers.{objects}
use Rattle.evaluator.specs.Value.{is_clause}
use Rattle.lexical_evaluation.proofs.machine.deciding.each_is_clause.Given as goal

-- all are, if those that are left are
abbrev pub invariant-loop-form : goal.invariant-loop-form
invariant-loop-form l = list_all is_clause (objects (drop l.form-index l.forms)) ≡ list_all is_clause (objects l.forms)
