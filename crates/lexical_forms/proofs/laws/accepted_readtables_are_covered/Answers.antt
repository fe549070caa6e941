use Rattle.lexical_forms.proofs.Accepted.{accepted_covers}
use Rattle.lexical_forms.proofs.laws.accepted_readtables_are_covered.Goals as goal

pub returns : goal.returns
returns c = accepted_covers
