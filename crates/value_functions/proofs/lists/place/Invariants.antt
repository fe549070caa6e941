use Rattle.std.proofs.Common.{◌≡◌, false, drop}
use Rattle.lisp_object.specs.Object.{Object, pairs}
use Rattle.lisp_object.specs.Datum.{object_of}
use Rattle.lisp_operators.specs.ArgumentKinds.{is_pair}
use Rattle.lisp_operators.specs.EvaluationAnswers.{objects}
use Rattle.value_functions.specs.Lists.{member}
use Rattle.value_functions.proofs.lists.place.Given as goal

abbrev pub invariant-loop-at : goal.invariant-loop-at
invariant-loop-at l = (end : Object) → is_pair end ≡ false
    → member (object_of l.datum) (pairs (objects (drop l.at l.items)) end) ≡ member (object_of l.datum) (pairs (objects l.items) end)
