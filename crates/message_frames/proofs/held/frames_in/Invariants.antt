use Rattle.std.proofs.Common.{◌≤◌, ◌-◌, length, map}
use Rattle.message_frames.specs.Frames.{AreFrames, sent_frame}
use Rattle.message_frames.proofs.held.frames_in.Given as goal

abbrev pub invariant-frames : goal.invariant-frames
invariant-frames l = record {
  so_far : AreFrames l.limit (map sent_frame l.frames.items) l.rest l.bytes;
  few : length l.frames.items ≤ l.most;
}

abbrev pub decreases-frames : goal.decreases-frames
decreases-frames l = l.most - length l.frames.items
