use Rattle.std.proofs.Common.{IfOk, subst}
use Rattle.plist_state.specs.State.{WorldState}
use Rattle.sessions.specs.steps.Input.{AreAllThere, FinishesInput, IsPending}
use Rattle.sessions.proofs.serving.finish.Goals as goal

pub finish-requires-clause-pending : goal.finish-requires-clause-pending
finish-requires-clause-pending g c = c.requires.pending.some c.open_world-world.result.now.0 c.open_world-world.ensures.told

pub returns-clause-finishes : goal.returns-clause-finishes
returns-clause-finishes g c = λ w known bytes.
    let functions = g.R.Meaning.Meaning.functions in
    subst (λ (v : WorldState). IsPending functions v c.args.mode c.args.pending bytes → IfOk c.finish.result (FinishesInput functions v c.args.mode bytes))
    (c.open_world-world.ensures.one w known) (c.finish.ensures.finishes bytes)

pub returns-clause-all_there : goal.returns-clause-all_there
returns-clause-all_there g c = λ w known.
    subst (λ (v : WorldState). IfOk c.finish.result (AreAllThere v)) (c.open_world-world.ensures.one w known) c.finish.ensures.all_there
