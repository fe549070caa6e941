use Rattle.std.specs.Prelude.{◌≡◌, take}
use Rattle.std.specs.List.{flat_map}
use Rattle.pazturrok_c.specs.Engine.{outcome_bytes}
use Rattle.pazturrok_c.proofs.many.answers_to.Given as goal

-- what is told of the outcomes so far
abbrev pub invariant-loop-outcome : goal.invariant-loop-outcome
invariant-loop-outcome l = l.bytes.items ≡ flat_map (outcome_bytes l.store.world) (take l.outcome-index l.outcomes)
