use Rattle.std.proofs.Common.{◌≤◌, ap, arith, refl, subst, sym}
use Rattle.lisp_object.specs.Datum.{object_of}
use Rattle.sessions.specs.declared.answer.Answered.{Answered}
use Rattle.sessions.specs.steps.Answer.{TellsForm}
use Rattle.sessions.specs.steps.Course.{Course, course_of}
use Rattle.sessions.specs.steps.Schedule.{pace_of}
use Rattle.sessions.proofs.EndedAt.{passes_form, refused_there, tells_accepted}
use Rattle.sessions.proofs.Handing.{hands_from, none_handed}
use Rattle.sessions.proofs.Pieces.{begins_as}
use Rattle.prevalence_store.proofs.calls.Executing.{known_world}
use Rattle.sessions.proofs.answer.answer_read.Goals as goal

pub returns-in-Err-clause-answers : goal.returns-in-Err-clause-answers
returns-in-Err-clause-answers g c = λ w known text next begins start_is.
    c.in-Err.ensures.answers w known text next
    (begins_as g.R.Meaning.Meaning.functions w c.args.wanted.mode text (object_of c.args.form.now.read.datum) c.args.form.now.own.items c.as_slice-own.result.now next begins c.as_slice-own.ensures.value)

pub returns-in-Refused-clause-answers : goal.returns-in-Refused-clause-answers
returns-in-Refused-clause-answers g c = λ w known text next begins start_is.
    let functions = g.R.Meaning.Meaning.functions in
    let course = course_of c.args.course.now in
    let mid : Course = record { pace = pace_of c.answer_form.new.schedule; forms = course.forms; bytes = course.bytes } in
    let later = course_of c.pass.new.self in
    let held = g.W.Recipient.contents c.args.writer.now in
    let written = g.W.Recipient.contents c.answer_form.new.writer in
    let it = c.args.form.now in
    let again = begins_as functions w c.args.wanted.mode text (object_of it.read.datum) it.own.items c.as_slice-own.result.now next begins c.as_slice-own.ensures.value in
    let passed = passes_form functions g.D.Disk.state course mid later c.args.store.now c.answer_form.new.store w c.args.wanted text held written it.start it.next c.in-Ok.answered
    (c.in-Ok.ensures.answers w known text next again) refl refl c.pass.ensures in
    let place = c.place-place.ensures in
    refused_there functions g.D.Disk.state course later c.args.store.now c.answer_form.new.store w c.args.wanted text held written (object_of it.read.datum) it.own.items it.start it.next c.in-Refused.number passed.0 c.place-place.result
    c.if-wanted.true passed.1 (subst (λ (a : Answered). TellsForm functions w c.args.wanted.mode text passed.0 a) c.in-Refused.is passed.2) next begins start_is place.0 place.1 place.2

pub returns-in_default-clause-answers : goal.returns-in_default-clause-answers
returns-in_default-clause-answers g c = λ w known text next begins start_is.
    let functions = g.R.Meaning.Meaning.functions in
    let course = course_of c.args.course.now in
    let mid : Course = record { pace = pace_of c.answer_form.new.schedule; forms = course.forms; bytes = course.bytes } in
    let later = course_of c.pass.new.self in
    let held = g.W.Recipient.contents c.args.writer.now in
    let written = g.W.Recipient.contents c.answer_form.new.writer in
    let it = c.args.form.now in
    let again = begins_as functions w c.args.wanted.mode text (object_of it.read.datum) it.own.items c.as_slice-own.result.now next begins c.as_slice-own.ensures.value in
    let passed = passes_form functions g.D.Disk.state course mid later c.args.store.now c.answer_form.new.store w c.args.wanted text held written it.start it.next c.in-Ok.answered
    (c.in-Ok.ensures.answers w known text next again) refl refl c.pass.ensures in
    (passed.0.refused, passed.1, λ strict. tells_accepted functions w c.args.wanted.mode text passed.0 c.in-Ok.answered (λ number is. c.in_default.not-Refused number is) passed.2)

pub returns-else-wanted-clause-answers : goal.returns-else-wanted-clause-answers
returns-else-wanted-clause-answers g c = λ w known text next begins start_is.
    let functions = g.R.Meaning.Meaning.functions in
    let course = course_of c.args.course.now in
    let mid : Course = record { pace = pace_of c.answer_form.new.schedule; forms = course.forms; bytes = course.bytes } in
    let later = course_of c.pass.new.self in
    let held = g.W.Recipient.contents c.args.writer.now in
    let written = g.W.Recipient.contents c.answer_form.new.writer in
    let it = c.args.form.now in
    let again = begins_as functions w c.args.wanted.mode text (object_of it.read.datum) it.own.items c.as_slice-own.result.now next begins c.as_slice-own.ensures.value in
    let passed = passes_form functions g.D.Disk.state course mid later c.args.store.now c.answer_form.new.store w c.args.wanted text held written it.start it.next c.in-Ok.answered
    (c.in-Ok.ensures.answers w known text next again) refl refl c.pass.ensures in
    (passed.0.refused, passed.1, λ strict. let lax = c.if-wanted.false in absurd (cc))

pub returns-in-Refused-clause-forms : goal.returns-in-Refused-clause-forms
returns-in-Refused-clause-forms g c = subst (λ (k : Course). k.forms ≤ k.bytes) (sym c.pass.ensures) (omega (arith, c.requires.forms, c.requires.order))

pub returns-in_default-clause-forms : goal.returns-in_default-clause-forms
returns-in_default-clause-forms g c = subst (λ (k : Course). k.forms ≤ k.bytes) (sym c.pass.ensures) (omega (arith, c.requires.forms, c.requires.order))

pub returns-else-wanted-clause-forms : goal.returns-else-wanted-clause-forms
returns-else-wanted-clause-forms g c = subst (λ (k : Course). k.forms ≤ k.bytes) (sym c.pass.ensures) (omega (arith, c.requires.forms, c.requires.order))

pub returns-in_default-clause-hands : goal.returns-in_default-clause-hands
returns-in_default-clause-hands g c =
    hands_from g.R.Meaning.Meaning.functions g.D.Disk.state g.met.D.Disk.sound 0 1 (course_of c.args.course.now).forms (course_of c.pass.new.self).forms
    (g.W.Recipient.account c.args.writer.now) (g.W.Recipient.account c.answer_form.new.writer) c.answer_form.new.store
    (omega (arith, ap (λ (k : Course). k.forms) c.pass.ensures)) c.in-Ok.ensures.hands

pub returns-else-wanted-clause-hands : goal.returns-else-wanted-clause-hands
returns-else-wanted-clause-hands g c =
    hands_from g.R.Meaning.Meaning.functions g.D.Disk.state g.met.D.Disk.sound 0 1 (course_of c.args.course.now).forms (course_of c.pass.new.self).forms
    (g.W.Recipient.account c.args.writer.now) (g.W.Recipient.account c.answer_form.new.writer) c.answer_form.new.store
    (omega (arith, ap (λ (k : Course). k.forms) c.pass.ensures)) c.in-Ok.ensures.hands

pub answer_form-requires-clause-stands : goal.answer_form-requires-clause-stands
answer_form-requires-clause-stands g c = λ w known.
    let s = c.requires.stands w known in
    let it = c.args.form.now in
    (s.0, s.1, begins_as g.R.Meaning.Meaning.functions w c.args.wanted.mode s.0 (object_of it.read.datum) it.own.items c.as_slice-own.result.now s.1 s.2 c.as_slice-own.ensures.value, s.3)

-- the session is strict
pub returns-in-Refused-clause-under_way : goal.returns-in-Refused-clause-under_way
returns-in-Refused-clause-under_way g c =
    let here = known_world c.args.store.now.world c.requires.form.is_open in
    let s = c.requires.stands here.0 here.1 in
    let it = c.args.form.now in
    let begins = begins_as g.R.Meaning.Meaning.functions here.0 c.args.wanted.mode s.0 (object_of it.read.datum) it.own.items c.as_slice-own.result.now s.1 s.2 c.as_slice-own.ensures.value in
    let answered = c.in-Ok.ensures.answers here.0 here.1 s.0 s.1 begins in
    none_handed g.R.Meaning.Meaning.functions g.D.Disk.state g.met.D.Disk.sound 0 1 (g.W.Recipient.account c.args.writer.now) (g.W.Recipient.account c.answer_form.new.writer) c.answer_form.new.store answered.0.world answered.1.after.left c.in-Ok.ensures.hands
