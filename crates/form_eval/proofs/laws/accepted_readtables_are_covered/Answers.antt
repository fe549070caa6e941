use Rattle.form_eval.proofs.Accepted.{accepted_covers}
use Rattle.form_eval.proofs.laws.accepted_readtables_are_covered.Goals as goal

pub returns : goal.returns
returns c = accepted_covers
