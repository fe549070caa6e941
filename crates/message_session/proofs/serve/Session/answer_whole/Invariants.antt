use Rattle.std.proofs.Common.{◌≡◌, List, Some, length}
use Rattle.message_frames.specs.Frames.{Sent}
use Rattle.message_session.specs.Standing.{AnswersFirstOf, BytesComeNext, RestsAt}
use Rattle.message_session.specs.Steps.{PassesFrames}
use Rattle.plist_state.specs.State.{WorldState}
use Rattle.message_session.proofs.serve.Session.answer_whole.Given as goal

-- the first frames were answered and passed, and the macro functions stay
abbrev pub invariant-rounds : goal.invariant-rounds
invariant-rounds g l = record {
  macros : l.store.macros ≡ l.fn.store.macros;
  answered : (w : WorldState) → l.fn.store.world ≡ Some w
      → (frames : List Sent) × PassesFrames g.R.Meaning.Meaning.functions l.fn.self l.self w g.D.Disk.state l.store (g.O.AnswerRecipient.contents l.fn.output) (g.O.AnswerRecipient.contents l.output) frames;
  rests : RestsAt g.R.Meaning.Meaning.functions g.D.Disk.state (g.O.AnswerRecipient.account l.output) l.store l.self.course.last;
  next : BytesComeNext (g.O.AnswerRecipient.account l.output) l.self.held;
  more : AnswersFirstOf (g.O.AnswerRecipient.account l.fn.output) (g.O.AnswerRecipient.account l.output) l.fn.self.held l.self.held;
  input : g.O.AnswerRecipient.input l.output ≡ g.O.AnswerRecipient.input l.fn.output;
}

-- each round passes a frame, which has bytes
abbrev pub decreases-rounds : goal.decreases-rounds
decreases-rounds g l = length l.self.held
