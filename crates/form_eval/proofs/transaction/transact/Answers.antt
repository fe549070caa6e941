use Rattle.std.proofs.Common.{sym, ◌∙◌}
use Rattle.lisp_object.specs.Datum.{object_of}
use Rattle.form_eval.proofs.Accepted.{accepted_silent}
use Rattle.form_eval.proofs.transaction.transact.Goals as goal

pub returns-in-Ok-clause-silent : goal.returns-in-Ok-clause-silent
returns-in-Ok-clause-silent c = λ silent.
    accepted_silent _ c.args.world.now.0 (object_of c.args.form.now.datum) _ c.in-Ok.ensures.accepted (sym c.either.ensures ∙ silent)
