use Rattle.std.proofs.Common.{◌≡◌, map, take}
use Rattle.message_frames.specs.Frames.{sent_frame}
use Rattle.message_session.specs.FrameAnswers.{frame_of_request}
use Rattle.message_session.proofs.answer.asked_of.Given as goal

-- what the frames so far ask
abbrev pub invariant-loop-frame : goal.invariant-loop-frame
invariant-loop-frame l = record { pairs : map frame_of_request l.asked.items ≡ map sent_frame (take l.frame-index l.frames) }
