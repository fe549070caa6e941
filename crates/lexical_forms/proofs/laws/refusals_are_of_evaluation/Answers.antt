use Rattle.lexical_forms.proofs.Accepted.{accepted_numbered}
use Rattle.lexical_forms.proofs.laws.refusals_are_of_evaluation.Goals as goal

pub returns : goal.returns
returns c = accepted_numbered
