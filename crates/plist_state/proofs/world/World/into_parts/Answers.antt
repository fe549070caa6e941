use Rattle.plist_state.proofs.Earlier.{parts_same}
use Rattle.plist_state.proofs.world.World.into_parts.Goals as goal

pub returns-clause-same : goal.returns-clause-same
returns-clause-same c = parts_same c.self.inside c.args.self c.self.view_is c.requires
