use Rattle.form_eval.proofs.Accepted.{accepted_as_asked}
use Rattle.form_eval.proofs.laws.questions_are_answered_as_forms.Goals as goal

pub returns : goal.returns
returns c = accepted_as_asked
