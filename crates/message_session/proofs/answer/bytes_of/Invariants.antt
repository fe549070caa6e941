use Rattle.std.proofs.Common.{◌≡◌, ◌++◌, length, map}
use Rattle.std.specs.List.{flat_map}
use Rattle.message_frames.specs.Frames.{answer_bytes, sent_frame}
use Rattle.message_session.specs.FrameAnswers.{frame_of_each_answer}
use Rattle.messages.specs.Rounds.{told_in}
use Rattle.message_session.proofs.answer.bytes_of.Given as goal

-- what was written and what is left
abbrev pub invariant-frames : goal.invariant-frames
invariant-frames l = record {
  parts : l.bytes.items ++ flat_map answer_bytes (frame_of_each_answer (map sent_frame l.frames) (map told_in l.answers))
      ≡ flat_map answer_bytes (frame_of_each_answer (map sent_frame l.fn.frames) (map told_in l.fn.answers));
}

abbrev pub decreases-frames : goal.decreases-frames
decreases-frames l = length l.frames
