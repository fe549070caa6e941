-- What is held, as frames are taken from it.
use Rattle.std.proofs.Common.{◌≡◌, ◌≢◌, ℕ, ◌<◌, ◌≤◌, List, [], ◌∷◌, ◌++◌, length, map, refl, ap, arith, length-append}
use Rattle.std.specs.Fmt.{decimal}
use Rattle.std.specs.List.{flat_map}
use Rattle.message_frames.specs.Frames.{Sent, frame_bytes, frame_head, sent_frame, sized_text}
use Rattle.message_frames.specs.WholeFrames as held
use Rattle.message_frames.specs.declared.frame.MessageFrame.{MessageFrame}
use Rattle.message_frames.specs.declared.held.Next.{Next}
use Rattle.message_frames.specs.declared.held.Next.TheVariants as next
use Rattle.message_session.specs.MessageSessions.{text_limit}
use Rattle.message_session.specs.Steps.{ComesAfter}

-- as many frames as were wanted are some
pub comes_after : (most : ℕ) (frames : List MessageFrame) (rest : List ℕ) (after : Next) → 1 ≤ most → held.FrameFollows text_limit most (length frames) rest after → ComesAfter (map sent_frame frames) rest after
comes_after most frames rest next.Begun some follows = follows
comes_after most frames rest next.Malformed some follows = follows
comes_after most [] rest next.Unread some follows = absurd (omega (arith, follows))
comes_after most (frame ∷ frames) rest next.Unread some follows = λ none. absurd (cc none)

pub has_bytes : (frame : Sent) → 0 < length (frame_bytes frame)
has_bytes frame = omega (arith, length-append (frame_head frame.0) (sized_text frame.1), length-append (decimal (length frame.1)) (10 ∷ (frame.1 ++ 10 ∷ [])))

-- frames have bytes
pub shorter : (frames : List Sent) (rest bytes : List ℕ) → frames ≢ [] → bytes ≡ flat_map frame_bytes frames ++ rest → length rest < length bytes
shorter [] rest bytes some parts = absurd (some refl)
shorter (frame ∷ frames) rest bytes some parts =
    omega (arith, ap length parts, length-append (frame_bytes frame ++ flat_map frame_bytes frames) rest, length-append (frame_bytes frame) (flat_map frame_bytes frames), has_bytes frame)
