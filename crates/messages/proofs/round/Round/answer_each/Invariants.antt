use Rattle.plist_state.specs.State.{Worlds}
use Rattle.messages.specs.Rounds.{StaysMade, round_in}
use Rattle.prevalence_store.specs.steps.Batch.{IsWorldMarked}
use Rattle.messages.proofs.Fronts.{IsAt}
use Rattle.messages.proofs.round.Round.answer_each.Given as goal

-- the requests so far
abbrev pub invariant-loop-request : goal.invariant-loop-request
invariant-loop-request g l = record {
  at : IsAt g.R.Meaning.Meaning.functions l.fn.most (round_in l.fn.self l.fn.world.0) l.requests l.request-index (round_in l.self l.world.0) l.room;
  made : StaysMade g.R.Meaning.Meaning.functions (round_in l.fn.self l.fn.world.0) (round_in l.self l.world.0);
  marks : (worlds : Worlds) → IsWorldMarked worlds l.fn.world.1 → IsWorldMarked worlds l.world.1;
}
