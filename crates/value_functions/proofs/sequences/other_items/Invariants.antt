use Rattle.std.proofs.Common.{◌≡◌, not, filter, take}
use Rattle.lisp_object.specs.Datum.{object_of}
use Rattle.lisp_operators.specs.EvaluationAnswers.{AreProper, objects}
use Rattle.value_functions.specs.Equality.{is_eql}
use Rattle.value_functions.proofs.sequences.other_items.Given as goal

abbrev pub invariant-loop-item : goal.invariant-loop-item
invariant-loop-item l = record {
  others : objects l.others.items ≡ filter (λ y. not (is_eql (object_of l.datum) y)) (objects (take l.item-index l.items));
  proper : AreProper l.others.items;
}
