use Rattle.std.proofs.Common.{subst}
use Rattle.lisp_operators.proofs.Silence.{Keeps}
use Rattle.evaluator.proofs.SilentForms.{value_silent}
use Rattle.evaluator.proofs.laws.silent_values_change_nothing.Goals as goal

pub returns : goal.returns
returns c = λ names s x d is none. (subst (Keeps s) is (value_silent names s x)).same none
