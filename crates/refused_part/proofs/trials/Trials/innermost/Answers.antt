use Rattle.std.proofs.Common.{◌∙◌, inr}
use Rattle.refused_part.proofs.Parts.{may_try_part}
use Rattle.refused_part.proofs.Worlds.{found_in, may_after}
use Rattle.refused_part.proofs.trials.Trials.innermost.Goals as goal

pub refused_near-requires-clause-form : goal.refused_near-requires-clause-form
refused_near-requires-clause-form g c =
    may_after c.args.world.now c.levels.world c.args.self.now.form.now c.levels.invariant.same c.requires.form

pub levels-preserved : goal.levels-preserved
levels-preserved g c =
    let found = found_in g.M.Meaning.functions.names c.args.self.now.number c.args.self.now.form.now c.args.world.now c.levels.world c.levels.invariant.same
    c.in_ok-inner.field-0 c.in-Some.inner c.in-Some.is c.in_ok-inner.ensures.found in
    record { same = c.refused_near.ensures.same ∙ c.levels.invariant.same; there = found.0; refused = inr found.1 }

pub returns-clause-may : goal.returns-clause-may
returns-clause-may g c =
    may_try_part c.args.world.now.0.packages c.levels.found.place.items c.args.self.now.form.now c.levels.found.part.now c.requires.form c.levels.invariant.there
