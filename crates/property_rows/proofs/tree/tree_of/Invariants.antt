use Rattle.std.proofs.Common.{◌-◌}
use Rattle.property_rows.specs.Slots.{IsTreeSize}
use Rattle.property_rows.proofs.tree.tree_of.Given as goal

abbrev pub invariant-loop-size : goal.invariant-loop-size
invariant-loop-size l = IsTreeSize l.size

abbrev pub decreases-loop-size : goal.decreases-loop-size
decreases-loop-size l = l.count - l.size
