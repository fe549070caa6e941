use Rattle.lisp_reading.proofs.Bounded.{form_below}
use Rattle.lisp_reading.proofs.laws.forms_are_within_the_limit.Goals as goal

pub returns : goal.returns
returns c = form_below
