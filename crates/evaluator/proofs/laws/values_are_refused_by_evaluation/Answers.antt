use Rattle.std.proofs.Common.{subst}
use Rattle.lisp_operators.proofs.Numbered.{Numbered}
use Rattle.evaluator.proofs.NumberedForms.{value_numbered}
use Rattle.evaluator.proofs.laws.values_are_refused_by_evaluation.Goals as goal

pub returns : goal.returns
returns c = λ names s x code is. (subst Numbered is (value_numbered names s x)).number
