use Rattle.form_eval.specs.Acceptance.{accept}
use Rattle.lexical_evaluation.proofs.Outcomes.{keeps_value, keeps_refusal}
use Rattle.lexical_forms.specs.WithFunctions.{accept_lexically}
use Rattle.lexical_forms.proofs.laws.functions_change_no_form.Goals as goal

pub returns-clause-accepted : goal.returns-clause-accepted
returns-clause-accepted c = λ names s x d is. keeps_value (accept names s x) (accept_lexically names s x) d is

pub returns-clause-refused : goal.returns-clause-refused
returns-clause-refused c = λ names s x code is other. keeps_refusal (accept names s x) (accept_lexically names s x) code is other
