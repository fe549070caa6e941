use Rattle.std.proofs.Common.{◌≡◌, ◌≤◌, ◌-◌, Some, length, map, take, drop}
use Rattle.message_frames.specs.Frames.{sent_frame}
use Rattle.message_session.specs.FrameAnswers.{answered_bytes}
use Rattle.message_session.specs.MessageSessions.{AreFramesAnswered}
use Rattle.message_session.specs.Standing.{AnswersMore, FramesComeNext, RestsAt}
use Rattle.plist_state.specs.State.{WorldState}
use Rattle.message_session.proofs.answer.answer_frames.Given as goal

-- so many frames were answered, and the macro functions stay
abbrev pub invariant-fronts : goal.invariant-fronts
invariant-fronts g l = record {
  within : l.done ≤ length l.frames;
  macros : l.store.macros ≡ l.fn.store.macros;
  answered : (w : WorldState) → l.fn.store.world ≡ Some w
      → AreFramesAnswered g.R.Meaning.Meaning.functions l.fn.course.last w g.D.Disk.state l.store (g.O.AnswerRecipient.contents l.fn.output) (g.O.AnswerRecipient.contents l.output)
      (answered_bytes g.R.Meaning.Meaning.functions l.fn.course.last w) (map sent_frame (take l.done l.frames)) l.course.last;
  rests : RestsAt g.R.Meaning.Meaning.functions g.D.Disk.state (g.O.AnswerRecipient.account l.output) l.store l.course.last;
  next : FramesComeNext (g.O.AnswerRecipient.account l.output) (map sent_frame (drop l.done l.frames));
  more : AnswersMore (g.O.AnswerRecipient.account l.fn.output) (g.O.AnswerRecipient.account l.output) (map sent_frame (take l.done l.frames));
  input : g.O.AnswerRecipient.input l.output ≡ g.O.AnswerRecipient.input l.fn.output;
}

abbrev pub decreases-fronts : goal.decreases-fronts
decreases-fronts g l = length l.frames - l.done
