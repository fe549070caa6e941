use Rattle.std.proofs.Common.{subst}
use Rattle.plist_state.specs.Sound.{IsSoundWorld}
use Rattle.plist_state.proofs.Earlier.{world_sound}
use Rattle.plist_state.proofs.world.World.soundness.Goals as goal

pub returns : goal.returns
returns c = subst IsSoundWorld c.self.view_is (world_sound c.self.inside c.self.invariant)
