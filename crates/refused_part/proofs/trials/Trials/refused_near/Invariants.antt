use Rattle.std.proofs.Common.{◌≡◌}
use Rattle.refused_part.proofs.trials.Trials.refused_near.Given as goal

-- the world is as it was
abbrev pub invariant-loop-i : goal.invariant-loop-i
invariant-loop-i g l = l.world ≡ l.fn.world
