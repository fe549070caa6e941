use Rattle.std.proofs.Common.{◌≡◌, drop}
use Rattle.lisp_object.specs.Datum.{object_of}
use Rattle.lisp_operators.specs.EvaluationAnswers.{IsProper, objects}
use Rattle.value_functions.specs.Comparisons.{is_chain}
use Rattle.value_functions.proofs.comparisons.is_chain.Given as goal

abbrev pub invariant-rest : goal.invariant-rest
invariant-rest l = record {
  left : is_chain l.test (object_of l.before) (objects (drop l.datum-index l.rest)) ≡ is_chain l.test (object_of l.first) (objects l.rest);
  proper : IsProper l.before;
}
