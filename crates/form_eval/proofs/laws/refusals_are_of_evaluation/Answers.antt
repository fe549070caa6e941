use Rattle.form_eval.proofs.Accepted.{accepted_numbered}
use Rattle.form_eval.proofs.laws.refusals_are_of_evaluation.Goals as goal

pub returns : goal.returns
returns c = accepted_numbered
