use Rattle.std.proofs.Common.{◌≡◌, true, [], refl, ap, subst, inl, inr}
use Rattle.std.specs.Bool.{OnFalse}
use Rattle.gate_log.specs.Failures.{is_read_fault}
use Rattle.gate_log.specs.declared.error.ReadError.TheVariants.{Damaged, DeviceFault, OutOfMemory}
use Rattle.prevalence_store.specs.calls.Store.{store_view_of}
use Rattle.prevalence_store.proofs.steps.Loading.{rises_risen}
use Rattle.prevalence_store.proofs.steps.Storing.{keeps_further}
use Rattle.prevalence_store.proofs.calls.CuttingZeros.{no_zeros_memory, ready_still, zeros_fault, zeros_gone, zeros_still}
use Rattle.prevalence_store.proofs.store.Store.cut_zeros.Goals as goal

pub invariant_of-self : goal.invariant_of-self
invariant_of-self g c =
    let functions = g.R.Meaning.Meaning.functions in
    let state = g.D.Disk.state in
    let inside = c.self.inside in
    let new = c.cut_zeros.new.self in
    let e = c.in-Ok.ensures in (
      c.self.invariant.0,
      λ is. ready_still state inside.log.halves new (c.self.invariant.1 is) e.used e.tells.honest e.tells.failures e.done,
      λ is. keeps_further functions state inside.log.failed inside.log.halves new inside.world.0 inside.world.0 inside.macros
          (λ here. (
            [],
            (
              0,
              (zeros_gone functions state g.met.D.Disk.sound inside.log.failed inside.log.halves new inside.world.0 inside.world.0 inside.macros
                  (store_view_of inside.log.failed inside.log.halves inside.world.0 inside.macros) refl here c.self.invariant.1 e.used e.limit e.tells.honest e.tells.mixes e.any_moment e.other
                  e.tells.failures e.done e.file true refl).survives,
            ),
          ))
          e.tells.honest c.self.invariant.2 is,
    )

pub returns-in-Ok-clause-answer : goal.returns-in-Ok-clause-answer
returns-in-Ok-clause-answer g c = λ w known.
    let inside = c.self.inside in
    let e = c.in-Ok.ensures in
    zeros_gone g.R.Meaning.Meaning.functions g.D.Disk.state g.met.D.Disk.sound inside.log.failed inside.log.halves c.cut_zeros.new.self inside.world.0 w inside.macros c.args.self.now
    c.self.view_is known c.self.invariant.1 e.used e.limit e.tells.honest e.tells.mixes e.any_moment e.other e.tells.failures e.done e.file c.args.wrote c.if-not-wrote.false

pub returns-in-Err-OutOfMemory-clause-answer : goal.returns-in-Err-OutOfMemory-clause-answer
returns-in-Err-OutOfMemory-clause-answer g c = λ w known.
    let inside = c.self.inside in
    let new = c.cut_zeros.new.self in
    let was = c.in-Err-OutOfMemory.field-0-is in
    let is : c.in-Err-OutOfMemory.field-0 ≡ OutOfMemory = cc in
    inr (no_zeros_memory g.R.Meaning.Meaning.functions g.D.Disk.state g.met.D.Disk.sound inside.log.failed inside.log.halves new inside.world.0 w inside.macros c.args.self.now
    c.self.view_is known (subst (λ x. OnFalse (is_read_fault x) (new ≡ inside.log.halves)) is c.in-Err-OutOfMemory.ensures.unchanged))

pub returns-then-not-wrote-clause-answer : goal.returns-then-not-wrote-clause-answer
returns-then-not-wrote-clause-answer g c = λ w known.
    let inside = c.self.inside in
    zeros_still g.R.Meaning.Meaning.functions g.D.Disk.state g.met.D.Disk.sound inside.log.failed inside.log.halves inside.log.halves inside.world.0 w inside.macros c.args.self.now
    c.self.view_is known c.args.wrote c.if-not-wrote.true

-- it never comes
pub returns-in-Err-Damaged-clause-answer : goal.returns-in-Err-Damaged-clause-answer
returns-in-Err-Damaged-clause-answer g c = λ w known.
    let was = c.in-Err-Damaged.field-0-is in
    let is : c.in-Err-Damaged.field-0 ≡ Damaged = cc in
    absurd (c.in-Err-Damaged.ensures.undamaged is)

pub returns-in-Err-DeviceFault-clause-answer : goal.returns-in-Err-DeviceFault-clause-answer
returns-in-Err-DeviceFault-clause-answer g c = λ w known.
    let inside = c.self.inside in
    let e = c.in-Err-DeviceFault.ensures in
    let was = c.in-Err-DeviceFault.field-0-is in
    let is : c.in-Err-DeviceFault.field-0 ≡ DeviceFault = cc in
    inl (zeros_fault g.R.Meaning.Meaning.functions g.D.Disk.state g.met.D.Disk.sound inside.log.failed inside.log.halves c.cut_zeros.new.self inside.world.0 w inside.macros c.args.self.now
    c.self.view_is known c.self.invariant.1 e.used e.limit e.tells.honest e.tells.mixes e.any_moment e.other
    (rises_risen (is_read_fault c.in-Err-DeviceFault.field-0) _ _ e.tells.failures (ap is_read_fault is)))
