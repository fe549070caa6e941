use Rattle.lexical_forms.proofs.Accepted.{accepted_silent}
use Rattle.lexical_forms.proofs.laws.silent_forms_change_nothing.Goals as goal

pub returns : goal.returns
returns c = accepted_silent
