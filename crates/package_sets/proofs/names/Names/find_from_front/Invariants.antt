use Rattle.std.proofs.Common.{◌≤◌, length}
use Rattle.package_sets.proofs.names.Names.find_from_front.Given as goal

abbrev pub invariant-loop-number : goal.invariant-loop-number
invariant-loop-number l = l.number ≤ length l.self

abbrev pub decreases-loop-number : goal.decreases-loop-number
decreases-loop-number l = l.number
