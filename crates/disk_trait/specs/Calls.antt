-- What each call of a disk promises. Of every disk, that its count of failures tells of its faults; the rest of an honest one.
use Rattle.std.specs.Prelude.{◌≡◌, ℕ, ◌≤◌, List, length, take, drop, Result, IfOk, OnOk}
use Rattle.disk_trait.specs.Disk.{Image, State, IsHonest, IsMixing, Counts, Looks, Changes, OnHalf, Torn, Mixed, TornCut, file_of, written}
use Rattle.disk_trait.specs.declared.disk.DeviceFault.{DeviceFault}
use Rattle.disk_trait.specs.declared.half.Half.{Half}

-- there is a byte of the file before this offset, or the file ends there
abbrev pub IsWithinFile : Half → ℕ → State → Type 0
IsWithinFile half at s = IsHonest s → at ≤ length (file_of half s.reads)

-- `len` gives the length of the file
pub record GivesLength (half : Half) (old new : State) (result : Result ℕ DeviceFault) : Type 0 where
  pub counts : Counts old new result
  pub looks : IsHonest old → Looks old new
  pub length : IfOk result (λ n. IsHonest old → n ≡ length (file_of half old.reads))

-- `read` gives as many bytes as the file has from the offset on, up to the length of the buffer
pub record GivesBytes (half : Half) (at : ℕ) (before after : List ℕ) (old new : State) (result : Result ℕ DeviceFault) : Type 0 where
  pub counts : Counts old new result
  pub looks : IsHonest old → Looks old new
  pub within : IfOk result (λ count. count ≤ length before)
  pub bytes : IfOk result (λ count. IsHonest old → take count after ≡ take (length before) (drop at (file_of half old.reads)))

-- `write_at` puts these bytes in place of those from the offset on, or is torn there; where the disk mixes, it is mixed there
pub record WritesBytes {T : Type 0} (half : Half) (at : ℕ) (bytes : List ℕ) (old new : State) (result : Result T DeviceFault) : Type 0 where
  pub counts : Counts old new result
  pub tears : IsHonest old → Changes (OnHalf half (Torn at (length bytes))) old new
  pub mixes : IsHonest old → IsMixing old → Changes (OnHalf half (Mixed at bytes)) old new
  pub done : OnOk result (IsHonest old → OnHalf half (λ file next. next ≡ written at bytes file) old.reads new.reads)

-- `cut` leaves the first so many bytes, or is torn after them
pub record CutsFile {T : Type 0} (half : Half) (len : ℕ) (old new : State) (result : Result T DeviceFault) : Type 0 where
  pub counts : Counts old new result
  pub tears : IsHonest old → Changes (OnHalf half (TornCut len)) old new
  pub done : OnOk result (IsHonest old → OnHalf half (λ file next. next ≡ take len file) old.reads new.reads)

-- after `sync` a crash leaves of the half what a read gives
pub record SyncsFile {T : Type 0} (half : Half) (old new : State) (result : Result T DeviceFault) : Type 0 where
  pub counts : Counts old new result
  pub looks : IsHonest old → Looks old new
  pub done : OnOk result (IsHonest old → ((c : Image) → new.may_leave c → file_of half c ≡ file_of half old.reads))
