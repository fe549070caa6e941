use Rattle.lexical_evaluation.proofs.Agreeing.{languages_agree, refusals_agree}
use Rattle.lexical_evaluation.proofs.laws.languages_agree.Goals as goal

pub returns-clause-values : goal.returns-clause-values
returns-clause-values c = languages_agree

pub returns-clause-refusals : goal.returns-clause-refusals
returns-clause-refusals c = refusals_agree
