use Rattle.std.proofs.Common.{◌∙◌}
use Rattle.plist_state.specs.Changes.{property}
use Rattle.plist_state.proofs.world.World.get.Goals as goal

pub returns-clause-value : goal.returns-clause-value
returns-clause-value c = c.get_at.ensures.value ∙ (λ k. property c.args.self.now.0 (c.borrowed.ensures k) (c.borrowed-2.ensures k))
