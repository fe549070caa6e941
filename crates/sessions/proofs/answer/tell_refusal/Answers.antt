use Rattle.std.proofs.Common.{subst}
use Rattle.sessions.specs.declared.answer.Answered.{Answered}
use Rattle.sessions.specs.steps.Answer.{MayBeHeard}
use Rattle.sessions.proofs.answer.tell_refusal.Goals as goal

pub visit-requires-clause-may : goal.visit-requires-clause-may
visit-requires-clause-may g c = λ w known.
    subst (λ (a : Answered). MayBeHeard g.R.Meaning.Meaning.functions c.args.store.now.world a c.args.form.now.read.now) c.in-Refused.is c.requires.heard w known
