use Rattle.std.proofs.Common.{◌≡◌, drop}
use Rattle.lisp_object.specs.Datum.{object_of}
use Rattle.lisp_operators.specs.EvaluationAnswers.{IsProper, objects}
use Rattle.value_functions.specs.Comparisons.{furthest}
use Rattle.value_functions.proofs.extremes.furthest.Given as goal

abbrev pub invariant-rest : goal.invariant-rest
invariant-rest l = record {
  left : furthest l.way (object_of l.found) (objects (drop l.datum-index l.rest)) ≡ furthest l.way (object_of l.first) (objects l.rest);
  proper : IsProper l.found;
}
