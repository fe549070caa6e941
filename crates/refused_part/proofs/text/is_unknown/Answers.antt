use Rattle.refused_part.proofs.Fillings.{may_call}
use Rattle.refused_part.proofs.text.is_unknown.Goals as goal

pub is_refused_form-requires-clause-fits : goal.is_refused_form-requires-clause-fits
is_refused_form-requires-clause-fits g c =
    (may_call c.args.world.now.0.packages c.soundness.ensures.present.packages c.in_ok-form.form c.in_ok-form.ensures.proper c.args.head.now c.requires.head c.in_ok-form.ensures.object).1
