use Rattle.std.proofs.Common.{◌∙◌}
use Rattle.refused_part.proofs.Worlds.{may_after}
use Rattle.refused_part.proofs.trials.Trials.refused_within.Goals as goal

pub range_of-requires-clause-form : goal.range_of-requires-clause-form
range_of-requires-clause-form g c =
    may_after c.args.world.now c.is_reached.new.world c.args.self.now.form.now c.is_reached.ensures.same c.requires.form

pub refused_among-requires-clause-form : goal.refused_among-requires-clause-form
refused_among-requires-clause-form g c =
    may_after c.args.world.now c.range_of.new.world c.args.self.now.form.now (c.range_of.ensures.same ∙ c.is_reached.ensures.same) c.requires.form
