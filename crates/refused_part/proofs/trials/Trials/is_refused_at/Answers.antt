use Rattle.lisp_object.specs.Datum.{object_of}
use Rattle.refused_part.specs.Part.{is_evaluated}
use Rattle.refused_part.proofs.Worlds.{also_told, may_after}
use Rattle.refused_part.proofs.trials.Trials.is_refused_at.Goals as goal

pub is_evaluated-requires-clause-form : goal.is_evaluated-requires-clause-form
is_evaluated-requires-clause-form g c =
    may_after c.args.world.now c.is_refused_first.new.world c.args.self.now.form.now c.is_refused_first.ensures.same c.requires.form

pub returns-clause-tells : goal.returns-clause-tells
returns-clause-tells g c =
    also_told (λ s. is_evaluated g.M.Meaning.functions.names s (object_of c.args.self.now.form.now) c.args.part.now.place.items)
    c.args.world.now c.is_refused_first.new.world c.is_refused_first.ensures.same
    _ (c.in_ok-is_refused_first.ensures.tells c.if-not-branch.false) c.is_evaluated.result c.is_evaluated.ensures.tells
