use Rattle.std.proofs.Common.{List, ◌+◌, [], ◌∷◌, ◌++◌, take, Result, Ok, Err, refl, sym, subst, ◌∙◌, arith}
use Rattle.std.specs.Prelude.{OnErr}
use Rattle.std.specs.List.{All}
use Rattle.std.proofs.lemmas.List.{take_all, take_more}
use Rattle.std.proofs.lemmas.List.Elements.{All-append, All-cons, All-nil}
use Rattle.prevalence_store.specs.calls.Execute.{IsProperOutcome}
use Rattle.prevalence_store.specs.declared.outcome.Outcome.{Outcome}
use Rattle.prevalence_store.specs.declared.step.Step.{Step}
use Rattle.session_words.specs.declared.mode.Mode.TheVariants.{Current}
use Rattle.prevalence_store.specs.declared.step.Step.TheVariants.{Form}
use Rattle.prevalence_store.specs.calls.Run.{TakesSteps}
use Rattle.prevalence_store.proofs.Surviving.{unchanged_survives}
use Rattle.prevalence_store.proofs.calls.Running.{steps_more, steps_survive}
use Rattle.prevalence_store.proofs.store.Store.run.Goals as goal

pub steps-preserved : goal.steps-preserved
steps-preserved g c =
    let functions = g.R.Meaning.Meaning.functions in
    let k = c.steps.step-index in
    let so_far = c.steps.invariant in
    record {
      takes =
          subst (λ (outcomes : List Outcome). TakesSteps functions g.D.Disk.state c.args.self.now c.step-outcome.new.self (take (k + 1) c.args.steps.now) outcomes)
          (sym c.push_reserved.ensures.items)
          (subst (λ (steps : List Step). TakesSteps functions g.D.Disk.state c.args.self.now c.step-outcome.new.self steps (c.steps.outcomes.items ++ c.step-outcome.result ∷ []))
          (sym (take_more c.args.steps.now k (Form Current (record { ref_ptr = (0, 0); now = [] })) c.steps-test.true))
          (steps_more functions g.D.Disk.state c.args.self.now c.steps.self c.step-outcome.new.self (take k c.args.steps.now) c.steps.outcomes.items _ c.step-outcome.result
          so_far.takes c.step-outcome.ensures.takes));
      proper =
          subst (λ (outcomes : List Outcome). All IsProperOutcome outcomes) (sym c.push_reserved.ensures.items)
          (All-append IsProperOutcome c.steps.outcomes.items (c.step-outcome.result ∷ []) so_far.proper
          (All-cons IsProperOutcome c.step-outcome.result [] c.step-outcome.ensures.proper (All-nil IsProperOutcome)));
      room = c.push_reserved.ensures.capacity ∙ so_far.room;
      many = let more = c.push_reserved.ensures.len in let many = so_far.many in omega arith;
      honest = c.step-outcome.ensures.honest ∙ so_far.honest;
      macros = c.step-outcome.ensures.macros ∙ so_far.macros;
    }

on_err : {T E P : Type 0} (result : Result T E) → P → OnErr result P
on_err (Ok value) holds = tt
on_err (Err error) holds = holds

pub returns-in_err-outcomes-clause-nothing_taken : goal.returns-in_err-outcomes-clause-nothing_taken
returns-in_err-outcomes-clause-nothing_taken g c = λ w.
    on_err c.from_residual.result
    (unchanged_survives g.R.Meaning.Meaning.functions g.D.Disk.state g.met.D.Disk.sound c.args.self.now c.args.self.now w refl)

pub returns-clause-survives : goal.returns-clause-survives
returns-clause-survives g c = λ w.
    let functions = g.R.Meaning.Meaning.functions in
    let index_end = c.steps-test.false in
    steps_survive functions g.D.Disk.state g.met.D.Disk.sound c.args.self.now c.steps.self c.args.steps.now c.steps.outcomes.items
    (subst (λ (steps : List Step). TakesSteps functions g.D.Disk.state c.args.self.now c.steps.self steps c.steps.outcomes.items)
    (take_all c.steps.step-index c.args.steps.now (omega arith)) c.steps.invariant.takes) w
