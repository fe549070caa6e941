use Rattle.refused_part.proofs.Fillings.{may_both}
use Rattle.refused_part.proofs.Parts.{may_try_part}
use Rattle.refused_part.proofs.trials.Trials.is_refused_before.Goals as goal

pub both-requires-clause-part : goal.both-requires-clause-part
both-requires-clause-part g c =
    (may_try_part c.args.world.now.0.packages c.args.part.now.place.items c.args.self.now.form.now c.args.part.now.part.now c.requires.form c.requires.there).0

pub is_refused_with-requires-clause-other : goal.is_refused_with-requires-clause-other
is_refused_with-requires-clause-other g c =
    may_both c.args.world.now.0.packages c.soundness.ensures.present.packages c.in_ok-other.other c.in_ok-other.ensures.proper c.args.part.now.part.now c.args.other
    (may_try_part c.args.world.now.0.packages c.args.part.now.place.items c.args.self.now.form.now c.args.part.now.part.now c.requires.form c.requires.there)
    c.requires.other c.in_ok-other.ensures.object
