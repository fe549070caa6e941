-- Two files that somebody else may be writing, and what reading them gives.
use Rattle.std.specs.Prelude.{◌≡◌, ℕ, ◌+◌, ◌<◌, ◌≤◌, Bool, List, [], ◌∷◌, length, take, slice_get, Some, Result, IfOk, IsTrue}
use Rattle.disk_trait.specs.Disk.{Image, file_of}
use Rattle.disk_trait.specs.declared.disk.DeviceFault.{DeviceFault}
use Rattle.disk_trait.specs.declared.half.Half.{Half}

-- What a reader of two files sees. Its calls take time, and it is never in the past.
pub record Watch : Type 0 where
  -- what it reads is what was there; nothing is claimed of one that isn't
  pub honest : Bool
  -- the two files at each moment, past and to come
  pub files : ℕ → Image
  -- the moment that it has come to
  pub now : ℕ

-- what the files held at each moment is known
abbrev pub IsHonestWatch : Watch → Type 0
IsHonestWatch w = IsTrue w.honest

-- the file of a half at each moment
abbrev pub file_at : Half → Watch → ℕ → List ℕ
file_at half w t = file_of half (w.files t)

-- time has gone on, and nothing else
pub record Later (old new : Watch) : Type 0 where
  pub honest : new.honest ≡ old.honest
  pub files : new.files ≡ old.files
  pub later : old.now ≤ new.now

-- These bytes of a file, from this offset on, were read one after the other between two moments: each at a moment of its own, no
-- earlier than that of the byte before it.
abbrev pub IsRead : (ℕ → List ℕ) → ℕ → List ℕ → ℕ → ℕ → Type 0
IsRead file at [] from to = from ≤ to
IsRead file at (byte ∷ bytes) from to = (t : ℕ) × (from ≤ t) × (slice_get (file t) at ≡ Some byte) × IsRead file (at + 1) bytes t to

-- the first bytes of a file at one moment between two, `size` of them or as many as there were
pub record IsHead (file : ℕ → List ℕ) (size : ℕ) (head : List ℕ) (from to : ℕ) : Type 0 where
  pub moment : ℕ
  pub not_before : from ≤ moment
  pub not_after : moment ≤ to
  pub is : head ≡ take size (file moment)

-- bytes of a file from this offset on, read in turn between two moments; fewer than `size` only where the file ended there after that
pub record IsPiece (file : ℕ → List ℕ) (at size : ℕ) (bytes : List ℕ) (from to : ℕ) : Type 0 where
  pub moment : ℕ
  pub read : IsRead file at bytes from moment
  pub not_after : moment ≤ to
  pub ended : length bytes < size → length (file moment) ≤ at + length bytes

-- ---- what the calls promise

-- `head` gives the first bytes of a file as they were at one moment
pub record GivesHead (half : Half) (before after : List ℕ) (old new : Watch) (result : Result ℕ DeviceFault) : Type 0 where
  pub later : Later old new
  pub within : IfOk result (λ count. count ≤ length before)
  pub head : IfOk result (λ count. IsHonestWatch old → IsHead (file_at half old) (length before) (take count after) old.now new.now)

-- `read` gives bytes in turn, each as it was when it was read
pub record GivesPiece (half : Half) (at : ℕ) (before after : List ℕ) (old new : Watch) (result : Result ℕ DeviceFault) : Type 0 where
  pub later : Later old new
  pub within : IfOk result (λ count. count ≤ length before)
  pub piece : IfOk result (λ count. IsHonestWatch old → IsPiece (file_at half old) at (length before) (take count after) old.now new.now)
