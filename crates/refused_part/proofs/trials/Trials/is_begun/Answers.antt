use Rattle.refused_part.proofs.Worlds.{may_after}
use Rattle.refused_part.proofs.trials.Trials.is_begun.Goals as goal

pub is_reached-requires-in-loop-i-clause-form : goal.is_reached-requires-in-loop-i-clause-form
is_reached-requires-in-loop-i-clause-form g c =
    may_after c.args.world.now c.loop-i.world c.args.self.now.form.now c.loop-i.invariant c.requires.form
