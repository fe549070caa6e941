use Rattle.std.proofs.Common.{◌++◌, [], ◌∷◌, length}
use Rattle.plist_state.specs.MarkedWorlds.{IsWayBack}
use Rattle.plist_state.proofs.world.World.back_to.Given as goal

-- on the way back from the world before, as if that were marked
abbrev pub invariant-loop-self : goal.invariant-loop-self
invariant-loop-self l = IsWayBack l.mark (l.initial.self.0, l.initial.self.1 ++ l.initial.self.0 ∷ []) l.self

abbrev pub decreases-loop-self : goal.decreases-loop-self
decreases-loop-self l = length l.self.1
