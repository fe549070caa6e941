use Rattle.lisp_reading.proofs.Deciding.{decided_is, form_decides}
use Rattle.lisp_reading.proofs.laws.a_text_is_decided.Goals as goal

pub returns-clause-form : goal.returns-clause-form
returns-clause-form c = form_decides

pub returns-clause-goes_on : goal.returns-clause-goes_on
returns-clause-goes_on c = decided_is
