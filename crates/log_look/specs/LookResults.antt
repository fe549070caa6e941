-- What a look gives.
use Rattle.std.specs.Prelude.{◌≡◌, ◌⊎◌, ℕ, ◌+◌, ◌<◌, ◌≤◌, List, ◌∷◌, ◌++◌, length, take, drop, get_or, Option, None, Some}
use Rattle.std.specs.Int.{from_be_bytes, w32}
use Rattle.disk_trait.specs.Disk.{Image}
use Rattle.disk_trait.specs.declared.half.Half.{Half}
use Rattle.disk_trait.specs.declared.half.Half.TheVariants.{A, B}
use Rattle.gate_log.specs.Layout.{Contents, HasOpenGate, generation_of}
use Rattle.batch_bytes.specs.Reading.{HasNoMark}
use Rattle.batched_half.specs.Version3.{mark_of_one_sync}
use Rattle.gate_log.specs.Log.{FilesMean}
use Rattle.log_look.specs.Live.{IsRead}

-- Bytes that were seen mean what the two files meant at one moment between two.
pub record WasMeant (seen : Image) (files : ℕ → Image) (from to : ℕ) : Type 0 where
  pub contents : Option Contents
  pub moment : ℕ
  pub not_before : from ≤ moment
  pub not_after : moment ≤ to
  pub seen_means : FilesMean contents seen
  pub was_meant : FilesMean contents (files moment)

-- ---- on the way

-- a file was read from its start to its end
pub record IsReadToEnd (file : ℕ → List ℕ) (bytes : List ℕ) (from to : ℕ) : Type 0 where
  pub moment : ℕ
  pub read : IsRead file 0 bytes from moment
  pub not_after : moment ≤ to
  pub ended : length (file moment) ≤ length bytes

-- where the batches of a half of version 3 begin, by its head
abbrev pub start_of_batches : List ℕ → ℕ
start_of_batches bytes = 41 + from_be_bytes w32 (take 4 (drop 11 bytes))

-- at one moment between two a 0 stands in the file, or nothing, at a place between these
pub record ZeroStays (file : ℕ → List ℕ) (first last from to : ℕ) : Type 0 where
  pub place : ℕ
  pub moment : ℕ
  pub behind : first ≤ place
  pub before : place ≤ last
  pub not_before : from ≤ moment
  pub not_after : moment ≤ to
  pub is : get_or (file moment) place 0 ≡ 0

-- A file was read from its start to its end. Where the bytes are those of a half that is kept with one sync, and a 0 stands behind its snapshot,
-- no mark was read behind that; or a 0 before the mark stood there still when all had been read.
pub record IsSettledReading (file : ℕ → List ℕ) (bytes : List ℕ) (from to : ℕ) : Type 0 where
  pub whole : IsReadToEnd file bytes from to
  pub still : (done rest : List ℕ) → get_or bytes 15 0 ≡ mark_of_one_sync → bytes ≡ done ++ 0 ∷ rest → start_of_batches bytes ≤ length done
      → HasNoMark rest ⊎ ZeroStays file (start_of_batches bytes) (length done) whole.moment to

-- the generation that the first bytes of a half say; 0 where it is not open, has no whole header, or says so
pub record SaysGeneration (generation : ℕ) (head : List ℕ) : Type 0 where
  pub some : 0 < generation → HasOpenGate head × (16 ≤ length head) × (generation_of head ≡ generation)
  pub none : generation ≡ 0 → HasOpenGate head → (length head < 16) ⊎ (generation_of head ≡ 0)

-- the half of the greater of two generations, with it; A where they are the same; none where both are 0
abbrev pub IsHalfOfGreater : Half → ℕ → ℕ → ℕ → Type 0
IsHalfOfGreater A generation in_a in_b = (generation ≡ in_a) × (0 < in_a) × (in_b ≤ in_a)
IsHalfOfGreater B generation in_a in_b = (generation ≡ in_b) × (0 < in_b) × (in_a < in_b)

-- the half with the greater generation, of these two; 0 is no half
abbrev pub IsGreaterOfHalves : Option (Half × ℕ) → ℕ → ℕ → Type 0
IsGreaterOfHalves None in_a in_b = (in_a ≡ 0) × (in_b ≡ 0)
IsGreaterOfHalves (Some newest) in_a in_b = IsHalfOfGreater newest.0 newest.1 in_a in_b

-- a file was open with this generation at one moment between two
pub record WasOpen (file : ℕ → List ℕ) (generation from to : ℕ) : Type 0 where
  pub moment : ℕ
  pub not_before : from ≤ moment
  pub not_after : moment ≤ to
  pub is_open : HasOpenGate (file moment)
  pub is : generation_of (file moment) ≡ generation

-- these bytes of one half, and those of the other one
abbrev pub image_of : Half → List ℕ → List ℕ → Image
image_of A bytes other = record { a = bytes; b = other }
image_of B bytes other = record { a = other; b = bytes }
