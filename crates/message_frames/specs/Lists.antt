-- Lists of frames and of answers, as bytes.
use Rattle.std.specs.Prelude.{ℕ, ◌≡◌, ◌<◌, ◌^◌, ◌⊎◌, List, ◌++◌, length}
use Rattle.std.specs.List.{flat_map, AllByRecursion}
use Rattle.message_frames.specs.Frames.{Sent, AreFrames, IsFrame, IsBegunFrame, IsMalformedFrame, answer_bytes}

-- these frames stand whole in the bytes, and no other after them
pub record SplitsFrames (limit : ℕ) (bytes : List ℕ) (frames : List Sent) (rest : List ℕ) : Type 0 where
  pub parts : AreFrames limit frames rest bytes
  pub whole : IsBegunFrame limit rest ⊎ IsMalformedFrame limit rest

-- bytes are frames in at most one way
abbrev pub SplitsOneWay : Type 0
SplitsOneWay = (limit : ℕ) → limit < 2 ^ 64 → (bytes : List ℕ) → (frames others : List Sent) → (rest after : List ℕ)
    → SplitsFrames limit bytes frames rest → SplitsFrames limit bytes others after → (frames ≡ others) × (rest ≡ after)

-- as many answers, each with a text that an address space holds
abbrev pub AnswersAreReadBack : Type 0
AnswersAreReadBack = (limit : ℕ) → limit < 2 ^ 64 → (answers others : List Sent) → (rest after : List ℕ)
    → AllByRecursion (IsFrame limit) answers → AllByRecursion (IsFrame limit) others → length answers ≡ length others
    → flat_map answer_bytes answers ++ rest ≡ flat_map answer_bytes others ++ after → (answers ≡ others) × (rest ≡ after)
