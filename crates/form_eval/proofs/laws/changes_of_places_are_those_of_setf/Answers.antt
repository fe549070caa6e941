use Rattle.form_eval.proofs.PlaceForms.{pop_by_setf, decf_by_incf}
use Rattle.form_eval.proofs.laws.changes_of_places_are_those_of_setf.Goals as goal

pub returns-clause-pop : goal.returns-clause-pop
returns-clause-pop c = λ names s x i. pop_by_setf names s x i

pub returns-clause-decf : goal.returns-clause-decf
returns-clause-decf c = λ names s x i n. decf_by_incf names s x i n
