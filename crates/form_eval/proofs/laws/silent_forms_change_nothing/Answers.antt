use Rattle.form_eval.proofs.Accepted.{accepted_silent}
use Rattle.form_eval.proofs.laws.silent_forms_change_nothing.Goals as goal

pub returns : goal.returns
returns c = accepted_silent
