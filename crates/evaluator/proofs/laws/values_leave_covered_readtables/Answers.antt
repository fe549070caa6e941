use Rattle.std.proofs.Common.{true, subst}
use Rattle.lisp_operators.proofs.Keeping.{Keeps}
use Rattle.lisp_operators.proofs.Covering.{Covers, covering}
use Rattle.evaluator.proofs.KeepingForms.{value_keeps}
use Rattle.evaluator.proofs.laws.values_leave_covered_readtables.Goals as goal

pub returns : goal.returns
returns c = λ names s x d is.
    (subst (Keeps (Covers names) s) is (value_keeps true names (Covers names) (covering names) (λ _ s' n all. all) s x)).kept
