use Rattle.std.proofs.Common.{◌≡◌, ℕ, List, Result, Ok, Err, IfErr, OnOk, Option, ap, subst, sym, ◌∙◌}
use Rattle.lisp_object.specs.Datum.{object_of}
use Rattle.lisp_object.specs.declared.refusal.TheConstants.{LOG_FULL}
use Rattle.sessions.specs.declared.answer.Answered.{Answered}
use Rattle.sessions.specs.Account.{Account}
use Rattle.sessions.specs.steps.Answer.{BeginsWithForm}
use Rattle.sessions.specs.steps.Standing.{HandsOn, StandsBeforeAll}
use Rattle.prevalence_store.proofs.calls.Executing.{known_world}
use Rattle.sessions.proofs.Handing.{stands_further, no_renewal, none_further}
use Rattle.sessions.specs.Serve.{IsOver}
use Rattle.prevalence_store.specs.calls.Store.{StoreView}
use Rattle.sessions.proofs.Renewing.{fits_at_once, fits_from, renewal_stops, stops_at_once, tried_after}
use Rattle.sessions.proofs.answer.fit_form.Goals as goal

-- a recipient that got nothing holds what it held
quiet_contents : {V T : Type 0} (f : V → T) (a b : V) (result : Result Answered ℕ) → IfErr result (λ number. number ≡ LOG_FULL → b ≡ a) → IfErr result (λ number. number ≡ LOG_FULL → f b ≡ f a)
quiet_contents f a b (Ok told) quiet = tt
quiet_contents f a b (Err number) quiet = λ full. ap f (quiet full)

pub returns-in-Ok-clause-fits : goal.returns-in-Ok-clause-fits
returns-in-Ok-clause-fits g c = λ w known text next begins.
    let functions = g.R.Meaning.Meaning.functions in
    fits_at_once functions g.D.Disk.state g.met.D.Disk.sound c.args.store.now c.try_form.new.store c.try_form.new.store w c.args.mode text
    (g.W.Recipient.contents c.args.writer.now) (g.W.Recipient.contents c.try_form.new.writer) c.try_form.ensures.honest c.in-Ok.answered (c.in-Ok.ensures.tries w known text next begins)

pub returns-then-number-ne-LOG_FULL-clause-fits : goal.returns-then-number-ne-LOG_FULL-clause-fits
returns-then-number-ne-LOG_FULL-clause-fits g c = λ w known text next begins.
    let functions = g.R.Meaning.Meaning.functions in
    stops_at_once functions g.D.Disk.state g.met.D.Disk.sound c.args.store.now c.try_form.new.store c.try_form.new.store w c.args.mode text
    (g.W.Recipient.contents c.args.writer.now) (g.W.Recipient.contents c.try_form.new.writer) c.try_form.ensures.honest c.in-Err.number
    ((c.in-Err.ensures.tries w known text next begins).1 c.if-number-ne-LOG_FULL.true)

pub returns-in-Err-renew-clause-fits : goal.returns-in-Err-renew-clause-fits
returns-in-Err-renew-clause-fits g c = λ w known text next begins.
    let functions = g.R.Meaning.Meaning.functions in
    let full = c.if-number-ne-LOG_FULL.false in
    let same = c.in-Err.ensures.unchanged full in
    let here = ap (λ (s : StoreView g.row.D.Denot g.row.R.Denot). s.world) same ∙ known in
    let over = subst (λ (s : StoreView g.row.D.Denot g.row.R.Denot). IsOver functions g.D.Disk.state s w c.args.mode text) (sym same) ((c.in-Err.ensures.tries w known text next begins).0 full) in
    let held = g.W.Recipient.contents c.try_form.new.writer in
    fits_from functions g.D.Disk.state c.args.store.now c.try_form.new.store c.renew.new.store w c.args.mode text (g.W.Recipient.contents c.args.writer.now) held held (Err c.in-Err-renew.number)
    same (ap (λ v. g.W.Recipient.contents v) (c.in-Err.ensures.quiet full))
    (renewal_stops functions g.D.Disk.state g.met.D.Disk.sound c.try_form.new.store c.renew.new.store w c.args.mode text held here
    c.in-Err-renew.number over (c.in-Err-renew.ensures.renews w here))

pub returns-in_default-clause-fits : goal.returns-in_default-clause-fits
returns-in_default-clause-fits g c = λ w known text next begins.
    let functions = g.R.Meaning.Meaning.functions in
    let full = c.if-number-ne-LOG_FULL.false in
    let same = c.in-Err.ensures.unchanged full in
    let here = ap (λ (s : StoreView g.row.D.Denot g.row.R.Denot). s.world) same ∙ known in
    let over = subst (λ (s : StoreView g.row.D.Denot g.row.R.Denot). IsOver functions g.D.Disk.state s w c.args.mode text) (sym same) ((c.in-Err.ensures.tries w known text next begins).0 full) in
    let held = g.W.Recipient.contents c.try_form.new.writer in
    let again = c.try_form-in-Err in
    let is = c.in_default.ensures.renews w here in
    fits_from functions g.D.Disk.state c.args.store.now c.try_form.new.store again.new.store w c.args.mode text (g.W.Recipient.contents c.args.writer.now) held (g.W.Recipient.contents again.new.writer) again.result
    same (ap (λ v. g.W.Recipient.contents v) (c.in-Err.ensures.quiet full))
    (tried_after functions g.D.Disk.state g.met.D.Disk.sound c.try_form.new.store c.renew.new.store again.new.store w c.args.mode text held (g.W.Recipient.contents again.new.writer) c.renew.ensures.honest
    here over is again.result again.ensures.unchanged (quiet_contents (λ v. g.W.Recipient.contents v) c.try_form.new.writer again.new.writer again.result again.ensures.quiet) (again.ensures.tries w is.renews.left text next begins))

pub try_form-requires-in-Err-clause-stands : goal.try_form-requires-in-Err-clause-stands
try_form-requires-in-Err-clause-stands g c = λ v left.
    let functions = g.R.Meaning.Meaning.functions in
    let full = c.if-number-ne-LOG_FULL.false in
    let same = c.in-Err.ensures.unchanged full in
    let known = known_world c.args.store.now.world c.requires.form.is_open in
    let w = known.0 in
    let here = ap (λ (s : StoreView g.row.D.Denot g.row.R.Denot). s.world) same ∙ known.1 in
    let is = c.in_default.ensures.renews w here in
    let one : w ≡ v = let there = is.renews.left in cc in
    let s = c.requires.stands w known.1 in
    let told = g.W.Recipient.account c.args.writer.now in
    let before = stands_further functions g.D.Disk.state g.met.D.Disk.sound told c.try_form.new.store c.renew.new.store w c.args.mode s.0
    (subst (λ (store : StoreView g.row.D.Denot g.row.R.Denot). StandsBeforeAll functions g.D.Disk.state told store w c.args.mode s.0) (sym same) s.3)
    c.renew.ensures.honest here is.renews.left is.survives in
    let form = object_of c.args.form.now.read.now.datum in
    subst (λ u. (text : List ℕ) × (next : ℕ) × BeginsWithForm functions u c.args.mode text form c.args.form.now.own.now next × StandsBeforeAll functions g.D.Disk.state (g.W.Recipient.account c.try_form.new.writer) c.renew.new.store u c.args.mode text) one
    (s.0, s.1, s.2, subst (λ (o : Option (Account g.row.D.Denot)). StandsBeforeAll functions g.D.Disk.state o c.renew.new.store w c.args.mode s.0) (sym (ap (λ v. g.W.Recipient.account v) (c.in-Err.ensures.quiet full))) before)

pub returns-in_default-clause-hands : goal.returns-in_default-clause-hands
returns-in_default-clause-hands g c =
    let again = c.try_form-in-Err in
    subst (λ (told : Option (Account g.row.D.Denot)). OnOk again.result (HandsOn g.R.Meaning.Meaning.functions g.D.Disk.state 0 1 told (g.W.Recipient.account again.new.writer) again.new.store))
    (ap (λ v. g.W.Recipient.account v) (c.in-Err.ensures.quiet c.if-number-ne-LOG_FULL.false)) again.ensures.hands

pub returns-in-Err-renew-clause-under_way : goal.returns-in-Err-renew-clause-under_way
returns-in-Err-renew-clause-under_way g c =
    let functions = g.R.Meaning.Meaning.functions in
    let full = c.if-number-ne-LOG_FULL.false in
    let same = c.in-Err.ensures.unchanged full in
    let known = known_world c.args.store.now.world c.requires.form.is_open in
    let w = known.0 in
    let here = ap (λ (s : StoreView g.row.D.Denot g.row.R.Denot). s.world) same ∙ known.1 in
    let s = c.requires.stands w known.1 in
    let told = g.W.Recipient.account c.try_form.new.writer in
    let stands = subst (λ (o : Option (Account g.row.D.Denot)). StandsBeforeAll functions g.D.Disk.state o c.try_form.new.store w c.args.mode s.0) (sym (ap (λ v. g.W.Recipient.account v) (c.in-Err.ensures.quiet full)))
    (subst (λ (store : StoreView g.row.D.Denot g.row.R.Denot). StandsBeforeAll functions g.D.Disk.state (g.W.Recipient.account c.args.writer.now) store w c.args.mode s.0) (sym same) s.3) in
    none_further g.R.Meaning.Meaning.functions g.D.Disk.state g.met.D.Disk.sound told c.try_form.new.store c.renew.new.store w here (λ kept is. (stands kept is).0.at_rest)
    (no_renewal g.R.Meaning.Meaning.functions g.D.Disk.state g.met.D.Disk.sound c.try_form.new.store c.renew.new.store w c.in-Err-renew.number (c.in-Err-renew.ensures.renews w here))
