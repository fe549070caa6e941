use Rattle.std.proofs.Common.{inl, refl, ap, subst, ◌∙◌, arith}
use Rattle.message_session.specs.Steps.{MayBegin}
use Rattle.message_session.proofs.Beginning.{full_unbegun, no_room_begun, world_begun}
use Rattle.prevalence_store.specs.calls.Store.{StoreView}
use Rattle.prevalence_store.proofs.Surviving.{unchanged_survives}
use Rattle.message_session.proofs.serve.begin.Goals as goal

pub returns-in-Ok-clause-begun : goal.returns-in-Ok-clause-begun
returns-in-Ok-clause-begun g c = λ w known.
    let functions = g.R.Meaning.Meaning.functions in
    let begins = c.in-Ok.ensures.begins w known in
    let first = world_begun functions g.D.Disk.state c.args.store.now c.begin_messages.new.store w c.in-Ok.position known begins in (
      first.0,
      record {
        renewed = c.args.store.now;
        renews = inl refl;
        same = known;
        survives = unchanged_survives functions g.D.Disk.state g.met.D.Disk.sound c.args.store.now c.args.store.now w refl;
        begins = begins;
        known = first.1;
      },
    )

pub returns-in-Err-eq64-clause-begun : goal.returns-in-Err-eq64-clause-begun
returns-in-Err-eq64-clause-begun g c = λ w known.
    let functions = g.R.Meaning.Meaning.functions in
    let same = full_unbegun functions g.D.Disk.state c.args.store.now c.begin_messages.new.store w c.in-Err-eq64.field-0 c.in-Err-eq64.field-0-test (c.in-Err-eq64.ensures.begins w known) in
    subst (λ (s : StoreView g.row.D.Denot g.row.R.Denot). MayBegin functions g.D.Disk.state s c.begin_anew.new.store w c.begin_anew.result) same
    (c.begin_anew.ensures.begun w (ap (λ (s : StoreView g.row.D.Denot g.row.R.Denot). s.world) same ∙ known)
    (no_room_begun functions g.D.Disk.state c.args.store.now c.begin_messages.new.store w c.in-Err-eq64.field-0 c.in-Err-eq64.field-0-test (c.in-Err-eq64.ensures.begins w known)))

pub returns-in-Err-clause-begun : goal.returns-in-Err-clause-begun
returns-in-Err-clause-begun g c = λ w known. (c.in-Err.number, refl, inl ((λ full. omega (arith, full, c.in-Err.number-test)), c.in-Err.ensures.begins w known))
