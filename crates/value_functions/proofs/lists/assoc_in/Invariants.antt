use Rattle.std.proofs.Common.{◌≡◌, drop}
use Rattle.lisp_object.specs.Object.{pairs}
use Rattle.lisp_object.specs.Datum.{object_of}
use Rattle.lisp_operators.specs.EvaluationAnswers.{objects}
use Rattle.value_functions.specs.Lists.{assoc}
use Rattle.value_functions.specs.Parts.{end_of}
use Rattle.value_functions.proofs.lists.assoc_in.Given as goal

abbrev pub invariant-loop-item : goal.invariant-loop-item
invariant-loop-item l =
    assoc (object_of l.datum) (pairs (objects (drop l.item-index l.items)) (end_of l.fn.end)) ≡ assoc (object_of l.datum) (pairs (objects l.items) (end_of l.fn.end))
