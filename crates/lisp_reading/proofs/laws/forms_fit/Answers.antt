use Rattle.lisp_reading.proofs.Fittings.{form_fits, form_depth}
use Rattle.lisp_reading.proofs.laws.forms_fit.Goals as goal

pub returns-clause-fit : goal.returns-clause-fit
returns-clause-fit c = form_fits

pub returns-clause-depth : goal.returns-clause-depth
returns-clause-depth c = form_depth
