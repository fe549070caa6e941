use Rattle.std.proofs.Common.{Some}
use Rattle.plist_state.specs.State.{Worlds}
use Rattle.messages.specs.Rounds.{StaysMade, round_in}
use Rattle.messages.specs.declared.request.TheConstants.{ANSWER_BYTES}
use Rattle.prevalence_store.specs.steps.Batch.{IsWorldMarked}
use Rattle.client_table.proofs.Fronts.{IsAt}
use Rattle.client_table.proofs.turn.FirstAsked.answer_each.Given as goal

-- what was answered so far
abbrev pub invariant-loop-one : goal.invariant-loop-one
invariant-loop-one g l = record {
  at : IsAt g.R.Meaning.Meaning.functions l.self.most (Some ANSWER_BYTES) (round_in l.fn.round l.fn.world.0) l.self.asked.now l.one-index (round_in l.round l.world.0) (Some l.room);
  made : StaysMade g.R.Meaning.Meaning.functions (round_in l.fn.round l.fn.world.0) (round_in l.round l.world.0);
  marks : (worlds : Worlds) → IsWorldMarked worlds l.fn.world.1 → IsWorldMarked worlds l.world.1;
}
