use Rattle.std.proofs.Common.{rules, Ok, Err, refl, ap, subst}
use Rattle.lisp_object.specs.Datum.{object_of}
use Rattle.sessions.specs.steps.Forms.{Refused}
use Rattle.prevalence_store.specs.declared.failure.Unadded.{Unadded}
use Rattle.prevalence_store.specs.steps.Batch.{IsNotAdded}
use Rattle.prevalence_store.specs.steps.Failure.{is_refusal}
use Rattle.sessions.proofs.answer.reply_to.Goals as goal
use Rattle.prevalence_store.specs.meaning.Acceptance.{transaction_value}

pub returns-in_ok-line-in-Ok-clause-replies : goal.returns-in_ok-line-in-Ok-clause-replies
returns-in_ok-line-in-Ok-clause-replies g c = (Ok c.in-Ok.evaluated, (c.in-Ok.ensures.value, c.in-Ok.ensures.argument, c.in-Ok.ensures.taken, search rules, refl))

pub returns-in_ok-line-in-Err-Refused-clause-replies : goal.returns-in_ok-line-in-Err-Refused-clause-replies
returns-in_ok-line-in-Err-Refused-clause-replies g c =
    let e = c.in-Err-Refused in
    let is = e.field-0-is in
    let same = e.ensures.unchanged (ap (λ (cause : Unadded). is_refusal cause) is) in (
      Err (Refused e.number),
      (
        subst (λ (f : Unadded). IsNotAdded (transaction_value g.R.Meaning.Meaning.functions.names c.args.world.now.0 (object_of c.args.form.now.datum)) f) is e.ensures.cause,
        same.0,
        same.1,
        search rules,
        refl,
      ),
    )
