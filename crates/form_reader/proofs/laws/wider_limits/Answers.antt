use Rattle.lisp_reading.proofs.Widening.{form_widens}
use Rattle.form_reader.proofs.laws.wider_limits.Goals as goal

pub returns : goal.returns
returns c = form_widens
