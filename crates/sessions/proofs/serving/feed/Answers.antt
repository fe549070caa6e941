use Rattle.std.proofs.Common.{◌++◌, take, IfOk, subst}
use Rattle.plist_state.specs.State.{WorldState}
use Rattle.sessions.specs.steps.Input.{AreAllThere, FeedsInput, IsPending}
use Rattle.sessions.proofs.serving.feed.Goals as goal

pub feed-requires-clause-pending : goal.feed-requires-clause-pending
feed-requires-clause-pending g c = c.requires.pending.some c.open_world-world.result.now.0 c.open_world-world.ensures.told

pub returns-clause-feeds : goal.returns-clause-feeds
returns-clause-feeds g c = λ w known bytes.
    let functions = g.R.Meaning.Meaning.functions in
    let mode = c.args.mode in
    subst (λ (v : WorldState). IsPending functions v mode c.args.pending.now bytes
    → IfOk c.feed.result (λ part. FeedsInput functions v mode c.feed.new.self (bytes ++ take part.count c.args.piece.now) part.fed))
    (c.open_world-world.ensures.one w known) (c.feed.ensures.feeds bytes)

pub returns-clause-all_there : goal.returns-clause-all_there
returns-clause-all_there g c = λ w known.
    subst (λ (v : WorldState). IfOk c.feed.result (λ part. AreAllThere v part.fed)) (c.open_world-world.ensures.one w known) c.feed.ensures.all_there
