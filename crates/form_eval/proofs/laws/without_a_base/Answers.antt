use Rattle.form_eval.proofs.Accepted.{accepted_without_base}
use Rattle.form_eval.proofs.laws.without_a_base.Goals as goal

pub returns : goal.returns
returns c = accepted_without_base
