use Rattle.std.proofs.Common.{◌≡◌, drop, map}
use Rattle.lisp_operators.specs.EvaluationAnswers.{objects}
use Rattle.value_functions.specs.Arithmetic.{integer_in, from_left}
use Rattle.value_functions.proofs.sums.from_left.Given as goal

abbrev pub invariant-values : goal.invariant-values
invariant-values l =
    from_left l.function l.total (map integer_in (objects (drop l.datum-index l.values))) ≡ from_left l.function l.fn.first (map integer_in (objects l.values))
