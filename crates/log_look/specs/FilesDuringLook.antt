-- The two files of a store at the moments of a look, as its log leaves them while nobody else writes.
use Rattle.std.specs.Prelude.{◌≡◌, ◌≢◌, ℕ, ◌+◌, ◌≤◌, List, [], ◌++◌, length, get_or, Option}
use Rattle.disk_trait.specs.Disk.{Image, file_of, other_of}
use Rattle.disk_trait.specs.declared.half.Half.{Half}
use Rattle.batched_half.specs.Layout.{BatchedHalf, HoldsHalf}
use Rattle.batched_half.specs.Version3.{mark_of_one_sync}
use Rattle.gate_log.specs.Layout.{Contents, HasOpenGate, LogRecord, generation_of, with_records}
use Rattle.gate_log.specs.Log.{FilesMean, Holds, IsBeside, generation_in}

-- the later contents are the earlier ones with records more, or none more
pub record Gains (k j : Contents) : Type 0 where
  pub more : List LogRecord
  pub is : j ≡ with_records k more

-- ---- a half of version 3

-- this half is in use, and is this one
pub record IsBatchedInUse (half : Half) (h : BatchedHalf) (image : Image) : Type 0 where
  pub used : HoldsHalf h (file_of half image)
  pub beside : IsBeside h.generation (other_of half image)

-- the later one is the earlier one with batches more, or none more
pub record GainsBatches (h i : BatchedHalf) : Type 0 where
  pub more : List (List LogRecord)
  pub is : i ≡ record h { batches = h.batches ++ more }

-- from this offset on, a byte that is not 0 stays as it is
abbrev pub KeepsWritten : ℕ → List ℕ → List ℕ → Type 0
KeepsWritten start old new = (i : ℕ) → start ≤ i → get_or old i 0 ≢ 0 → get_or new i 0 ≡ get_or old i 0

-- ---- the two files

-- the file is open, and says this generation
pub record IsOpenWith (generation : ℕ) (file : List ℕ) : Type 0 where
  pub is_open : HasOpenGate file
  pub is : generation_of file ≡ generation

-- What an honest log does to the two files between two moments: records come to the half in use, or the other one is closed, filled
-- and opened with the next generation. What the other half holds does not matter, so it may be damaged.
pub record AreFilesAppended (files : ℕ → Image) (from to : ℕ) : Type 0 where
  -- at each moment the files mean contents, or no half is open
  pub means : (t : ℕ) → from ≤ t → t ≤ to → (k : Option Contents) × FilesMean k (files t)
  -- the generation in use never falls
  pub rises : (t u : ℕ) (k j : Option Contents) → from ≤ t → t ≤ u → u ≤ to → FilesMean k (files t) → FilesMean j (files u) → generation_in k ≤ generation_in j
  -- a half that is open with one generation at two moments was open with it in between: it is begun anew with a greater one
  pub stays : (half : Half) (t v u g : ℕ) → from ≤ t → t ≤ v → v ≤ u → u ≤ to
      → IsOpenWith g (file_of half (files t)) → IsOpenWith g (file_of half (files u)) → IsOpenWith g (file_of half (files v))
  -- what a half in use holds only gains records while its generation is the same
  pub gains : (half : Half) (t u : ℕ) (k j : Contents) → from ≤ t → t ≤ u → u ≤ to → Holds half k (files t) → Holds half j (files u)
      → k.generation ≡ j.generation → Gains k j
  -- to one of version 3 they come in batches
  pub batches : (half : Half) (t u : ℕ) (h i : BatchedHalf) → from ≤ t → t ≤ u → u ≤ to → IsBatchedInUse half h (files t) → IsBatchedInUse half i (files u)
      → h.generation ≡ i.generation → GainsBatches h i
  -- which with one sync are written over zeros: what stands behind its snapshot stays, also where a batch is not whole yet
  pub written : (half : Half) (t u : ℕ) (h i : BatchedHalf) → from ≤ t → t ≤ u → u ≤ to → IsBatchedInUse half h (files t) → IsBatchedInUse half i (files u)
      → h.generation ≡ i.generation → h.manner.mark ≡ mark_of_one_sync → KeepsWritten (41 + length h.snapshot) (file_of half (files t)) (file_of half (files u))
  -- an empty half was not open before
  pub unused : (half : Half) (t u : ℕ) → from ≤ t → t ≤ u → u ≤ to → file_of half (files u) ≡ [] → HasOpenGate (file_of half (files t)) → ⊥
