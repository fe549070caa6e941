-- What stands whole in bytes.
use Rattle.std.specs.Prelude.{ℕ, ◌≡◌, ◌≤◌, List, length, map, drop}
use Rattle.message_frames.specs.declared.held.Next.{Next}
use Rattle.message_frames.specs.declared.held.Next.TheVariants as next
use Rattle.message_frames.specs.declared.held.Whole.{Whole}
use Rattle.message_frames.specs.declared.words.NotWhole.{NotWhole}
use Rattle.message_frames.specs.declared.words.NotWhole.TheVariants as not_whole
use Rattle.message_frames.specs.Frames.{AreFrames, IsBegunFrame, IsMalformedFrame, sent_frame}

-- what is told where no whole frame is there
abbrev pub next_after : NotWhole → Next
next_after not_whole.Begun = next.Begun
next_after not_whole.Malformed = next.Malformed

-- what comes after so many of at most so many frames
abbrev pub FrameFollows : ℕ → ℕ → ℕ → List ℕ → Next → Type 0
FrameFollows limit most count rest next.Begun = IsBegunFrame limit rest
FrameFollows limit most count rest next.Malformed = IsMalformedFrame limit rest
FrameFollows limit most count rest next.Unread = count ≡ most

-- the bytes are these frames, at most so many, and what comes after them
pub record AreWhole (limit most : ℕ) (bytes : List ℕ) (whole : Whole) : Type 0 where
  pub frames : AreFrames limit (map sent_frame whole.frames.items) (drop whole.bytes bytes) bytes
  pub within : whole.bytes ≤ length bytes
  pub at_most : length whole.frames.items ≤ most
  pub follows : FrameFollows limit most (length whole.frames.items) (drop whole.bytes bytes) whole.next
