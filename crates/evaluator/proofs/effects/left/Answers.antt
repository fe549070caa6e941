use Rattle.std.proofs.Common.{pos, subst}
use Rattle.lisp_object.specs.declared.datum.Datum
use Rattle.lisp_object.specs.Datum.{object_of}
use Rattle.lisp_object.proofs.Objects.{object_of-Integer}
use Rattle.lisp_operators.specs.Effects.{Leaves}
use Rattle.evaluator.proofs.Seen.{left_seen, left_refused}
use Rattle.evaluator.proofs.effects.left.Goals as goal

pub returns-in-Ok-clause-gives : goal.returns-in-Ok-clause-gives
returns-in-Ok-clause-gives c = λ s o is. left_seen o s c.in-Ok.wrote (object_of (Datum.Integer (pos 1))) (object_of-Integer (pos 1)) (subst (λ r. Leaves r s o) c.in-Ok.is is)

pub returns-in-Err-clause-gives : goal.returns-in-Err-clause-gives
returns-in-Err-clause-gives c = λ s o is. left_refused c.in-Err.error s o (subst (λ r. Leaves r s o) c.in-Err.is is)
