-- Calls of a device one after the other, the newest first.
use Rattle.std.specs.Prelude.{◌≡◌, ◌⊎◌, ℕ, ◌+◌, ◌<◌, List, [], ◌∷◌, ◌++◌, length}
use Rattle.disk_trait.specs.Orders.{OrderValue, writes}
use Rattle.disk_trait.specs.declared.half.Half.{Half}
use Rattle.device_disk.specs.DeviceCalls.{DeviceCall, done, failed, gave}

-- the bytes of pieces, one after the other
abbrev pub joined_pieces : List (List ℕ) → List ℕ
joined_pieces [] = []
joined_pieces (piece ∷ more) = piece ++ joined_pieces more

-- ---- a write

-- the pieces were written from there on, each where the one before it ends
abbrev pub after_writes : Half → ℕ → List (List ℕ) → List DeviceCall → List DeviceCall
after_writes half at [] before = before
after_writes half at (piece ∷ more) before = after_writes half (at + length piece) more (done (writes half at piece) ∷ before)

-- These bytes were written from there on, all of them and nothing else, in one piece or in more.
pub record IsDeviceWritten (half : Half) (at : ℕ) (bytes : List ℕ) (before after : List DeviceCall) : Type 0 where
  pub pieces : List (List ℕ)
  pub all : bytes ≡ joined_pieces pieces
  pub calls : after ≡ after_writes half at pieces before

-- A front of these bytes was written from there on, and nothing else; then a write of the others failed, or it was given up.
pub record IsDeviceWrittenInPart (half : Half) (at : ℕ) (bytes : List ℕ) (before after : List DeviceCall) : Type 0 where
  pub pieces : List (List ℕ)
  pub rest : List ℕ
  pub all : bytes ≡ joined_pieces pieces ++ rest
  pub calls : (after ≡ after_writes half at pieces before)
      ⊎ (after ≡ failed (writes half (at + length (joined_pieces pieces)) rest) ∷ after_writes half at pieces before)

-- ---- another change, or a sync

-- The order was done, once.
abbrev pub IsDone : OrderValue → (before after : List DeviceCall) → Type 0
IsDone order before after = after ≡ done order ∷ before

-- The order failed, or it was given up before it was done.
abbrev pub IsNotDone : OrderValue → (before after : List DeviceCall) → Type 0
IsNotDone order before after = (after ≡ before) ⊎ (after ≡ failed order ∷ before)

-- The order was tried: it was done, it failed, or it was given up.
abbrev pub IsTried : OrderValue → (before after : List DeviceCall) → Type 0
IsTried order before after = IsDone order before after ⊎ IsNotDone order before after

-- ---- a file that was read

-- The pieces were read from there on, each where the one before it ends, with room for so many bytes each time.
abbrev pub after_reads : Half → (room at : ℕ) → List (List ℕ) → List DeviceCall → List DeviceCall
after_reads half room at [] before = before
after_reads half room at (piece ∷ more) before = after_reads half room (at + length piece) more (gave half at room piece ∷ before)

-- These bytes were read from the start on, up to where a read with room for more gave none.
pub record IsDeviceRead (half : Half) (bytes : List ℕ) (before after : List DeviceCall) : Type 0 where
  pub room : ℕ
  pub some : 0 < room
  pub pieces : List (List ℕ)
  pub all : bytes ≡ joined_pieces pieces
  pub calls : after ≡ gave half (length bytes) room [] ∷ after_reads half room 0 pieces before
