-- Messages, questions and answers as bytes. 10 is a newline, 32 a space; `decimal` is a number in digits, without a leading zero.
use Rattle.std.specs.Prelude.{ℕ, ◌≡◌, ◌<◌, ◌≤◌, ◌^◌, List, [], ◌∷◌, ◌++◌, length, codes}
use Rattle.std.specs.Fmt.{decimal}
use Rattle.std.specs.List.{flat_map, AllByRecursion}
use Rattle.message_frames.specs.declared.frame.Kind.{Kind}
use Rattle.message_frames.specs.declared.frame.Kind.TheVariants.{Do, By, Ask}
use Rattle.message_frames.specs.declared.frame.MessageFrame.{MessageFrame}
use Rattle.message_frames.specs.Words.{IsPartOfWord, BeginsNone}

-- a text after its length: the length and the text, on lines of their own
abbrev pub sized_text : List ℕ → List ℕ
sized_text text = decimal (length text) ++ 10 ∷ (text ++ 10 ∷ [])

-- a frame, or an answer: its kind and its text
abbrev pub Sent : Type 0
Sent = Kind × List ℕ

-- the first line of a frame: its keyword, its number and its length
abbrev pub frame_head : Kind → List ℕ
frame_head (Do number) = codes "do " ++ (decimal number ++ 32 ∷ [])
frame_head (By number) = codes "by " ++ (decimal number ++ 32 ∷ [])
frame_head Ask = codes "ask "

-- the first line of an answer without its length: its keyword and its number
abbrev pub answer_head : Kind → List ℕ
answer_head (Do number) = decimal number ++ 32 ∷ []
answer_head (By number) = codes "by " ++ (decimal number ++ 32 ∷ [])
answer_head Ask = codes "ask "

-- a frame as it is sent
abbrev pub frame_bytes : Sent → List ℕ
frame_bytes frame = frame_head frame.0 ++ sized_text frame.1

-- an answer as it is sent
abbrev pub answer_bytes : Sent → List ℕ
answer_bytes answer = answer_head answer.0 ++ sized_text answer.1

-- the line that tells a position
abbrev pub position_bytes : ℕ → List ℕ
position_bytes number = codes "at " ++ (decimal number ++ 10 ∷ [])

-- the number of a frame has at most 64 bits
abbrev pub IsKind : Kind → Type 0
IsKind (Do number) = number < 2 ^ 64
IsKind (By number) = number < 2 ^ 64
IsKind Ask = Unit {0}

-- a number of 64 bits, and a text of at most so many bytes
pub record IsFrame (limit : ℕ) (frame : Sent) : Type 0 where
  pub kind : IsKind frame.0
  pub text : length frame.1 ≤ limit

-- less than a frame; and no frame, however the bytes go on
abbrev pub IsBegunFrame : ℕ → List ℕ → Type 0
IsBegunFrame limit = IsPartOfWord frame_bytes (IsFrame limit)

-- these bytes are the beginning of no frame
abbrev pub IsMalformedFrame : ℕ → List ℕ → Type 0
IsMalformedFrame limit = BeginsNone frame_bytes (IsFrame limit)

-- a frame in memory
abbrev pub sent_frame : MessageFrame → Sent
sent_frame frame = (frame.kind, frame.text.now)

-- these bytes are these frames, one after the other, and then others
pub record AreFrames (limit : ℕ) (frames : List Sent) (rest bytes : List ℕ) : Type 0 where
  pub parts : bytes ≡ flat_map frame_bytes frames ++ rest
  pub each : AllByRecursion (IsFrame limit) frames
