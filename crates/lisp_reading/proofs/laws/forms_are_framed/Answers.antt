use Rattle.lisp_reading.proofs.Forms.{form_framed}
use Rattle.lisp_reading.proofs.laws.forms_are_framed.Goals as goal

pub returns : goal.returns
returns c = form_framed
