use Rattle.std.proofs.Common.{◌≡◌, ◌≤◌, drop, length}
use Rattle.lisp_object.specs.Object.{list_of}
use Rattle.lisp_operators.specs.EvaluationAnswers.{AreProper, objects}
use Rattle.lexical_evaluation.specs.Machine.{to_come}
use Rattle.lexical_evaluation.proofs.machine.calling.copied_to_come.Given as goal

abbrev pub decreases-loop-index : goal.decreases-loop-index
decreases-loop-index l = l.index

-- those from the index on are copied
abbrev pub invariant-loop-index : goal.invariant-loop-index
invariant-loop-index l = record {
  within : l.index ≤ length l.forms;
  same : to_come l.copies.items ≡ list_of (objects (drop l.index l.forms));
  proper : AreProper l.forms → AreProper l.copies.items;
}
