use Rattle.lexical_evaluation.proofs.LastingLaws.{given_silent, given_covered, lexical_numbered}
use Rattle.lexical_evaluation.proofs.laws.values_are_those_of_evaluation.Goals as goal

pub returns-clause-silent : goal.returns-clause-silent
returns-clause-silent c = given_silent

pub returns-clause-covered : goal.returns-clause-covered
returns-clause-covered c = given_covered

pub returns-clause-numbered : goal.returns-clause-numbered
returns-clause-numbered c = lexical_numbered
