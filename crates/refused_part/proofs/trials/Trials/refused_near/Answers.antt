use Rattle.refused_part.proofs.Worlds.{found_in, may_after}
use Rattle.refused_part.proofs.trials.Trials.refused_near.Goals as goal

pub refused_among-requires-clause-form : goal.refused_among-requires-clause-form
refused_among-requires-clause-form g c =
    may_after c.args.world.now c.range_of.new.world c.args.self.now.form.now c.range_of.ensures.same c.requires.form

pub returns-in-Some-clause-found : goal.returns-in-Some-clause-found
returns-in-Some-clause-found g c =
    found_in g.M.Meaning.functions.names c.args.self.now.number c.args.self.now.form.now c.args.world.now c.range_of.new.world c.range_of.ensures.same
    c.in_ok-found.field-0 c.in-Some.found c.in-Some.is c.in_ok-found.ensures.found

pub refused_within-requires-clause-form : goal.refused_within-requires-clause-form
refused_within-requires-clause-form g c =
    may_after c.args.world.now c.loop-i.world c.args.self.now.form.now c.loop-i.invariant c.requires.form

pub returns-in-Some-2-clause-found : goal.returns-in-Some-2-clause-found
returns-in-Some-2-clause-found g c =
    found_in g.M.Meaning.functions.names c.args.self.now.number c.args.self.now.form.now c.args.world.now c.loop-i.world c.loop-i.invariant
    c.in_ok-found-2.field-0 c.in-Some-2.found c.in-Some-2.is c.in_ok-found-2.ensures.found
