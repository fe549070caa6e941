use Rattle.std.proofs.Common.{◌≡◌, Some, map, take, drop}
use Rattle.message_frames.specs.Frames.{sent_frame}
use Rattle.message_session.specs.FrameAnswers.{answered_bytes}
use Rattle.message_session.specs.MessageSessions.{AreFramesAnswered}
use Rattle.message_session.specs.Standing.{AnswersMore, FramesComeNext, RestsAt}
use Rattle.plist_state.specs.State.{WorldState}
use Rattle.message_session.proofs.answer.answer_in_turn.Given as goal

-- the first frames were answered, and the macro functions stay
abbrev pub invariant-frames : goal.invariant-frames
invariant-frames g l = record {
  macros : l.store.macros ≡ l.fn.store.macros;
  answered : (w : WorldState) → l.fn.store.world ≡ Some w
      → AreFramesAnswered g.R.Meaning.Meaning.functions l.fn.course.last w g.D.Disk.state l.store (g.O.AnswerRecipient.contents l.fn.output) (g.O.AnswerRecipient.contents l.output)
      (answered_bytes g.R.Meaning.Meaning.functions l.fn.course.last w) (map sent_frame (take l.i l.frames)) l.course.last;
  rests : RestsAt g.R.Meaning.Meaning.functions g.D.Disk.state (g.O.AnswerRecipient.account l.output) l.store l.course.last;
  next : FramesComeNext (g.O.AnswerRecipient.account l.output) (map sent_frame (drop l.i l.frames));
  more : AnswersMore (g.O.AnswerRecipient.account l.fn.output) (g.O.AnswerRecipient.account l.output) (map sent_frame (take l.i l.frames));
  input : g.O.AnswerRecipient.input l.output ≡ g.O.AnswerRecipient.input l.fn.output;
}
