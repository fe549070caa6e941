use Rattle.std.proofs.Common.{◌≡◌, map, drop}
use Rattle.lisp_object.specs.Object.{list_of}
use Rattle.lisp_object.specs.Datum.{object_of}
use Rattle.evaluator.specs.Value.{are_clauses}
use Rattle.evaluator.specs.ArgumentValues.{arguments_of}
use Rattle.evaluator.proofs.clauses.are_clauses.Given as goal

abbrev pub invariant-loop-i : goal.invariant-loop-i
invariant-loop-i l = record {
  same : are_clauses (arguments_of (map object_of l.items)) ≡ are_clauses (list_of (map object_of (drop l.i l.items)));
}
