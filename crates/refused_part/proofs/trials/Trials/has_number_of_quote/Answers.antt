use Rattle.refused_part.proofs.Fillings.{may_none}
use Rattle.refused_part.proofs.trials.Trials.has_number_of_quote.Goals as goal

pub is_refused_with-requires-clause-other : goal.is_refused_with-requires-clause-other
is_refused_with-requires-clause-other g c =
    may_none c.args.world.now.0.packages c.soundness.ensures.present.packages c.in_ok-other.other c.in_ok-other.ensures.proper c.in_ok-other.ensures.object
