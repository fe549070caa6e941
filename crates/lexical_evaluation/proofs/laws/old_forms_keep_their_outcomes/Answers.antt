use Rattle.evaluator.specs.Value.{value}
use Rattle.lexical_evaluation.specs.Calls.{lexical_value}
use Rattle.lexical_evaluation.proofs.Outcomes.{keeps_value, keeps_refusal}
use Rattle.lexical_evaluation.proofs.laws.old_forms_keep_their_outcomes.Goals as goal

pub returns-clause-values : goal.returns-clause-values
returns-clause-values c = λ names s x d is. keeps_value (value names s x) (lexical_value names s x) d is

pub returns-clause-refusals : goal.returns-clause-refusals
returns-clause-refusals c = λ names s x code is not_asked. keeps_refusal (value names s x) (lexical_value names s x) code is not_asked
