use Rattle.std.proofs.Common.{refl}
use Rattle.prevalence_store.proofs.Surviving.{unchanged_survives}
use Rattle.message_session.proofs.answer.MessageCourse.renew_if_due.Goals as goal

pub returns-then-self-eq0-clause-renews : goal.returns-then-self-eq0-clause-renews
returns-then-self-eq0-clause-renews g c = λ w known. (known, unchanged_survives g.R.Meaning.Meaning.functions g.D.Disk.state g.met.D.Disk.sound c.args.store.now c.args.store.now w refl)
