use Rattle.lisp_reading.proofs.Dependings.{reading_same}
use Rattle.lisp_reading.proofs.laws.only_what_is_found_matters.Goals as goal

pub returns : goal.returns
returns c = reading_same
