use Rattle.std.proofs.Common.{◌≡◌, false, length, drop}
use Rattle.lisp_object.specs.Object.{Object, pairs}
use Rattle.lisp_operators.specs.ArgumentKinds.{is_pair}
use Rattle.lisp_operators.specs.EvaluationAnswers.{objects}
use Rattle.value_functions.specs.Equality.{is_equal}
use Rattle.value_functions.proofs.equals.+equal.Given as goal

abbrev pub invariant-are_equal-loop-at : goal.invariant-are_equal-loop-at
invariant-are_equal-loop-at l = (s t : Object) → is_pair s ≡ false → is_pair t ≡ false
    → is_equal (pairs (objects (drop l.at l.items)) s) (pairs (objects (drop l.at l.others)) t) ≡ is_equal (pairs (objects l.items) s) (pairs (objects l.others) t)
