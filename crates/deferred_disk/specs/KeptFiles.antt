-- What is kept in memory of a file.
use Rattle.std.specs.Prelude.{◌≡◌, ◌+◌, ◌<◌, ℕ, List, [], ◌∷◌, get_or, length, take}
use Rattle.deferred_disk.specs.declared.kept.KeptBytes.{KeptBytes}

-- these are bytes of a file, from this place on
abbrev pub StandFrom : ℕ → List ℕ → List ℕ → Type 0
StandFrom from bytes file = (i : ℕ) → i < length bytes → (from + i < length file) × (get_or bytes i 0 ≡ get_or file (from + i) 0)

-- its length, its first byte, and bytes from some place on
pub record IsKeptOf (kept : KeptBytes) (file : List ℕ) : Type 0 where
  pub len : kept.len ≡ length file
  pub first : take 1 file ≡ take (length file) (kept.first ∷ [])
  pub bytes : StandFrom kept.from kept.bytes.items file

-- all bytes of the file are kept
abbrev pub IsKeptWhole : KeptBytes → Type 0
IsKeptWhole kept = (kept.from ≡ 0) × (length kept.bytes.items ≡ kept.len)
