use Rattle.std.proofs.Common.{◌-◌, ◌≤◌, length}
use Rattle.property_rows.proofs.slots.first_from.Given as goal

abbrev pub invariant-loop-first : goal.invariant-loop-first
invariant-loop-first l = l.end ≤ length l.slots × l.first ≤ l.end

abbrev pub decreases-loop-first : goal.decreases-loop-first
decreases-loop-first l = l.end - l.first
