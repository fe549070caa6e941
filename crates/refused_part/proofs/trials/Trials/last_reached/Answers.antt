use Rattle.refused_part.proofs.Worlds.{may_after}
use Rattle.refused_part.proofs.trials.Trials.last_reached.Goals as goal

pub is_begun-requires-clause-form : goal.is_begun-requires-clause-form
is_begun-requires-clause-form g c =
    may_after c.args.world.now c.halves.world c.args.self.now.form.now c.halves.invariant.same c.requires.form
