use Rattle.std.proofs.Common.{subst}
use Rattle.lisp_object.specs.Datum.{object_of}
use Rattle.lisp_operators.specs.Effects.{IsTruth}
use Rattle.evaluator.proofs.Seen.{truth_shown, truth_refused}
use Rattle.evaluator.proofs.effects.shown.Goals as goal

pub returns-in_ok-truth_value-in-Ok-clause-gives : goal.returns-in_ok-truth_value-in-Ok-clause-gives
returns-in_ok-truth_value-in-Ok-clause-gives c = λ s o is.
    truth_shown o s c.in-Ok.is_true (object_of c.in_ok-truth_value-in-Ok.field-0) (subst (λ r. IsTruth r s o) c.in-Ok.is is) c.in_ok-truth_value-in-Ok.ensures.object

pub returns-in-Err-clause-gives : goal.returns-in-Err-clause-gives
returns-in-Err-clause-gives c = λ s o is. truth_refused c.in-Err.error s o (subst (λ r. IsTruth r s o) c.in-Err.is is)
