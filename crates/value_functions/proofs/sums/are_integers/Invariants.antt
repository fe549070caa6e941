use Rattle.std.proofs.Common.{◌≡◌, drop, is_some}
use Rattle.std.specs.List.{list_all}
use Rattle.lisp_operators.specs.ArgumentKinds.{an_integer}
use Rattle.lisp_operators.specs.EvaluationAnswers.{objects}
use Rattle.value_functions.proofs.sums.are_integers.Given as goal

abbrev pub invariant-values : goal.invariant-values
invariant-values l =
    list_all (λ x. is_some (an_integer x)) (objects (drop l.datum-index l.values)) ≡ list_all (λ x. is_some (an_integer x)) (objects l.values)
