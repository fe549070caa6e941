use Rattle.std.proofs.Common.{Bool, Option, None, Some, ℕ, subst}
use Rattle.sessions.specs.steps.Schedule.{RenewsAfterForm, pace_of}
use Rattle.prevalence_store.proofs.calls.Executing.{known_world}
use Rattle.sessions.proofs.Handing.{hands_renewed, no_renewal_after, none_further}
use Rattle.sessions.proofs.Renewing.{not_renewed_after, renewed_after}
use Rattle.sessions.proofs.answer.answer_form.Goals as goal

pub returns-in-None-clause-answers : goal.returns-in-None-clause-answers
returns-in-None-clause-answers g c = λ w known text next begins.
    let functions = g.R.Meaning.Meaning.functions in
    let mid = c.fit_form.new.store in
    let new = c.renew_after_form.new.store in
    let pace = pace_of c.args.schedule.now in
    let later = pace_of c.renew_after_form.new.schedule in
    renewed_after functions g.D.Disk.state g.met.D.Disk.sound c.args.store.now mid new w c.args.mode text
    (g.W.Recipient.contents c.args.writer.now) (g.W.Recipient.contents c.fit_form.new.writer) c.fit_form.ensures.honest
    c.in-Ok.answered (c.in-Ok.ensures.fits w known text next begins) pace later
    (λ v left. subst (λ (b : Bool). RenewsAfterForm functions g.D.Disk.state mid new v b pace later None) c.is_logged.ensures
    (subst (λ (r : Option ℕ). RenewsAfterForm functions g.D.Disk.state mid new v c.is_logged.result pace later r) c.in-None.is (c.renew_after_form.ensures.renews v left)))

pub returns-in-Some-clause-answers : goal.returns-in-Some-clause-answers
returns-in-Some-clause-answers g c = λ w known text next begins.
    let functions = g.R.Meaning.Meaning.functions in
    let mid = c.fit_form.new.store in
    let new = c.renew_after_form.new.store in
    let pace = pace_of c.args.schedule.now in
    let later = pace_of c.renew_after_form.new.schedule in
    not_renewed_after functions g.D.Disk.state g.met.D.Disk.sound c.args.store.now mid new w c.args.mode text
    (g.W.Recipient.contents c.args.writer.now) (g.W.Recipient.contents c.fit_form.new.writer) c.fit_form.ensures.honest
    c.in-Ok.answered (c.in-Ok.ensures.fits w known text next begins) pace later c.in-Some.number
    (λ v left. subst (λ (b : Bool). RenewsAfterForm functions g.D.Disk.state mid new v b pace later (Some c.in-Some.number)) c.is_logged.ensures
    (subst (λ (r : Option ℕ). RenewsAfterForm functions g.D.Disk.state mid new v c.is_logged.result pace later r) c.in-Some.is (c.renew_after_form.ensures.renews v left)))

pub returns-in-Err-clause-answers : goal.returns-in-Err-clause-answers
returns-in-Err-clause-answers g c = λ w known text next begins.
    let fits = c.in-Err.ensures.fits w known text next begins in
    (fits.0, fits.1 (pace_of c.args.schedule.now))

pub returns-in-None-clause-hands : goal.returns-in-None-clause-hands
returns-in-None-clause-hands g c =
    let functions = g.R.Meaning.Meaning.functions in
    let mid = c.fit_form.new.store in
    let new = c.renew_after_form.new.store in
    let here = known_world mid.world c.in-Ok.ensures.is_open in
    let pace = pace_of c.args.schedule.now in
    let later = pace_of c.renew_after_form.new.schedule in
    hands_renewed functions g.D.Disk.state g.met.D.Disk.sound 0 1 (g.W.Recipient.account c.args.writer.now) (g.W.Recipient.account c.fit_form.new.writer) mid new here.0 c.is_logged.result pace later
    c.renew_after_form.ensures.honest here.1
    (subst (λ (r : Option ℕ). RenewsAfterForm functions g.D.Disk.state mid new here.0 c.is_logged.result pace later r) c.in-None.is (c.renew_after_form.ensures.renews here.0 here.1))
    c.in-Ok.ensures.hands

pub returns-in-Some-clause-under_way : goal.returns-in-Some-clause-under_way
returns-in-Some-clause-under_way g c =
    let functions = g.R.Meaning.Meaning.functions in
    let mid = c.fit_form.new.store in
    let new = c.renew_after_form.new.store in
    let here = known_world mid.world c.in-Ok.ensures.is_open in
    let pace = pace_of c.args.schedule.now in
    let later = pace_of c.renew_after_form.new.schedule in
    none_further g.R.Meaning.Meaning.functions g.D.Disk.state g.met.D.Disk.sound (g.W.Recipient.account c.fit_form.new.writer) mid new here.0 here.1 (λ kept is. (c.in-Ok.ensures.hands kept is here.0 here.1).3)
    (no_renewal_after g.R.Meaning.Meaning.functions g.D.Disk.state g.met.D.Disk.sound mid new here.0 c.is_logged.result pace later c.in-Some.number
    (subst (λ (r : Option ℕ). RenewsAfterForm functions g.D.Disk.state mid new here.0 c.is_logged.result pace later r) c.in-Some.is (c.renew_after_form.ensures.renews here.0 here.1)))
