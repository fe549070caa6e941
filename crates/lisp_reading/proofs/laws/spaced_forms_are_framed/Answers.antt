use Rattle.lisp_reading.proofs.Following.{form_again, form_spaced}
use Rattle.lisp_reading.proofs.laws.spaced_forms_are_framed.Goals as goal

pub returns-clause-again : goal.returns-clause-again
returns-clause-again c = form_again

pub returns-clause-space : goal.returns-clause-space
returns-clause-space c = form_spaced
