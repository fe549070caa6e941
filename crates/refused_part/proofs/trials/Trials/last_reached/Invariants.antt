use Rattle.std.proofs.Common.{◌≡◌, ◌<◌, ◌≤◌, ◌-◌}
use Rattle.refused_part.proofs.trials.Trials.last_reached.Given as goal

-- the world is as it was
abbrev pub invariant-halves : goal.invariant-halves
invariant-halves g l = record {
  same : l.world ≡ l.fn.world;
  order : l.low < l.high;
  below : l.high ≤ l.fn.count;
}

abbrev pub decreases-halves : goal.decreases-halves
decreases-halves g l = l.high - l.low
