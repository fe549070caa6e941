use Rattle.lisp_reading.proofs.Following.{form_follows}
use Rattle.lisp_reading.proofs.laws.forms_are_decided.Goals as goal

pub returns : goal.returns
returns c = form_follows
