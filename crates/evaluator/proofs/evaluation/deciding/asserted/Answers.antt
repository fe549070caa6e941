use Rattle.std.proofs.Common.{sym, subst, ◌∙◌}
use Rattle.lisp_object.specs.Object.{nil}
use Rattle.lisp_operators.specs.EvaluationAnswers.{Answers, done}
use Rattle.lisp_operators.specs.Evaluation.{gives}
use Rattle.evaluator.specs.declared.wanted.ValueUse.TheVariants.{Truth}
use Rattle.evaluator.specs.StandIns.{seen}
use Rattle.evaluator.proofs.Deciding.{assert_refused, assert_false, assert_true}
use Rattle.evaluator.proofs.evaluation.deciding.asserted.Goals as goal

pub returns-then-not-is_true-clause-gives : goal.returns-then-not-is_true-clause-gives
returns-then-not-is_true-clause-gives c = λ s o is.
    assert_false o s c.in-Ok.test (subst (λ r. Answers done r s (seen Truth o)) c.in-Ok.is is) (sym c.is_true.ensures ∙ c.if-not-is_true.true)

pub returns-else-not-is_true-clause-gives : goal.returns-else-not-is_true-clause-gives
returns-else-not-is_true-clause-gives c = λ s o is.
    assert_true o s c.in-Ok.test c.after.result (subst (λ r. Answers done r s (seen Truth o)) c.in-Ok.is is) (sym c.is_true.ensures ∙ c.if-not-is_true.false)
    (c.after.ensures.gives s (gives nil s) (c.nothing.ensures.gives s))

pub returns-in-Err-clause-gives : goal.returns-in-Err-clause-gives
returns-in-Err-clause-gives c = λ s o is. assert_refused o s c.in-Err.error (subst (λ r. Answers done r s (seen Truth o)) c.in-Err.is is)
