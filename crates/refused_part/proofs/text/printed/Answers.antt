use Rattle.refused_part.proofs.Fillings.{may_quotation}
use Rattle.refused_part.proofs.text.printed.Goals as goal

pub print_after-requires-clause-fits : goal.print_after-requires-clause-fits
print_after-requires-clause-fits g c =
    (may_quotation c.args.world.now.0.packages c.soundness.ensures.present.packages c.in_ok-form.form c.in_ok-form.ensures.proper c.args.part.now c.requires.part c.in_ok-form.ensures.object).1
