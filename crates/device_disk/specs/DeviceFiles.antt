-- What the two files of a device hold after its calls, and what a crash may leave of them. This is what is taken as given of the system.
use Rattle.std.specs.Prelude.{◌≡◌, ℕ, ◌<◌, ◌≤◌, Bool, true, false, List, [], ◌∷◌, length, take, drop}
use Rattle.disk_trait.specs.Disk.{Image, Partly, file_of}
use Rattle.deferred_disk.specs.State.{OrderBinds, PartOfOrder, image_after}
use Rattle.device_disk.specs.DeviceCalls.{DeviceCall, done, failed, gave}

-- a read with room for so many bytes gives some of those that the file has there, and none only where it ends
pub record Shows (at room : ℕ) (bytes file : List ℕ) : Type 0 where
  pub there : bytes ≡ take (length bytes) (drop at file)
  pub end : bytes ≡ [] → 0 < room → length file ≤ at

-- no call has failed
abbrev pub IsUnfailed : List DeviceCall → Type 0
IsUnfailed [] = Unit {0}
IsUnfailed (done order ∷ earlier) = IsUnfailed earlier
IsUnfailed (failed order ∷ earlier) = ⊥
IsUnfailed (gave half at room bytes ∷ earlier) = IsUnfailed earlier

-- Of files that held `first` as the device was made, by whether its writes mix. Nothing is known of what was synced by then, so anything may be
-- left. A change that was done is there, and until a sync a crash may leave any part of it; a change that failed may be done in any part. A
-- sync binds what a crash leaves only where no call has failed before: after one that failed a system may have dropped what was not synced.
abbrev pub FilesAfterBy : (mixes : Bool) → Image → List DeviceCall → (holds left : Image) → Type 0
FilesAfterBy mixes first [] holds left = holds ≡ first
FilesAfterBy mixes first (done order ∷ earlier) holds left =
    (were : Image × Image) × FilesAfterBy mixes first earlier were.0 were.1 × (holds ≡ image_after order were.0)
    × Partly (PartOfOrder mixes order) were.1 left × (IsUnfailed earlier → OrderBinds order were.0 left)
FilesAfterBy mixes first (failed order ∷ earlier) holds left =
    (were : Image × Image) × FilesAfterBy mixes first earlier were.0 were.1
    × Partly (PartOfOrder mixes order) were.0 holds × Partly (PartOfOrder mixes order) were.1 left
FilesAfterBy mixes first (gave half at room bytes ∷ earlier) holds left =
    FilesAfterBy mixes first earlier holds left × Shows at room bytes (file_of half holds)

-- Of any device: of a write that was not synced a crash may leave any bytes.
abbrev pub FilesAfter : Image → List DeviceCall → (holds left : Image) → Type 0
FilesAfter first made holds left = FilesAfterBy false first made holds left

-- Of a device whose writes mix: of a write that was not synced a crash leaves of each byte the old one or the new one, and past the old end 0 or
-- the new one. That is a premise of its own, taken as given only by who keeps a half with one sync.
abbrev pub MixingFilesAfter : Image → List DeviceCall → (holds left : Image) → Type 0
MixingFilesAfter first made holds left = FilesAfterBy true first made holds left
