use Rattle.std.proofs.Common.{subst}
use Rattle.lisp_operators.specs.Effects.{IsTruth}
use Rattle.evaluator.proofs.Seen.{truth_left, truth_stops}
use Rattle.evaluator.proofs.effects.read.Goals as goal

pub returns-in-Ok : goal.returns-in-Ok
returns-in-Ok c = λ s o is. truth_left c.args.is_true _ s o c.in-Ok.is is

pub returns-in-Err : goal.returns-in-Err
returns-in-Err c = λ s o is. truth_stops c.in-Err.error s o (subst (λ r. IsTruth r s o) c.in-Err.is is)
