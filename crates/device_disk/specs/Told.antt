-- What a disk over a device is: what its calls say, and how many of them failed.
use Rattle.std.specs.Prelude.{◌≡◌, ◌≤◌, ℕ, Bool, List, ◌∷◌, refl}
use Rattle.std.specs.Coded.{Coded, code_by, coded×, coded_ℕ}
use Rattle.disk_trait.specs.Disk.{Image, IsSoundDisk, State, at_once}
use Rattle.disk_trait.specs.Orders.{syncs}
use Rattle.disk_trait.specs.declared.half.Half.TheVariants.{A, B}
use Rattle.deferred_disk.specs.DiskRequests.{CallsValue, all_of, first_calls}
use Rattle.deferred_disk.specs.Disk.{calls_of, state_by_calls}
use Rattle.deferred_disk.specs.State.{OrdersMayLeave, reads_by}
use Rattle.deferred_disk.specs.declared.disk.DeferredDisk.{DeferredDisk}
use Rattle.deferred_disk.specs.contracts.disk.DeferredDisk as noted_contract
use Rattle.device_disk.specs.DeviceCalls.{DeviceCall, done}
use Rattle.device_disk.specs.DeviceFiles.{FilesAfterBy, IsUnfailed}
use Rattle.device_disk.specs.Pieces.{IsDeviceRead}

-- the device, the calls of the disk as they are noted, and how many of them failed
pub record DeviceDiskValue (V : Type 0) : Type 0 where
  pub device : V
  pub noted : DeferredDisk
  pub failed : ℕ

-- it is told apart by its parts
abbrev pub device_disk_code : {V : Type 0} → Coded V → Coded (DeviceDiskValue V)
device_disk_code {V} device =
    code_by (V × (DeferredDisk × ℕ)) (coded× device (coded× noted_contract.the_row.coded coded_ℕ)) (λ d. (d.device, (d.noted, d.failed)))
    (λ p. record { device = p.0; noted = p.1.0; failed = p.1.1 }) (λ _. refl)

-- the state by the calls that were noted, with this count of failures
abbrev pub told_by : State → ℕ → State
told_by s failed = record s { failures = failed; performed = at_once }

-- the state of the disk
abbrev pub told_of : {V : Type 0} → DeviceDiskValue V → State
told_of disk = told_by (state_by_calls disk.noted) disk.failed

-- between calls it stands as they say
pub told_sound : (s : State) (failed : ℕ) → IsSoundDisk s → IsSoundDisk (told_by s failed)
told_sound s failed sound = record { reads_stay = sound.reads_stay; counts_now = sound.counts_now; only_now = sound.only_now; bytes = sound.bytes }

-- What was noted tells of the files of the device, whatever they held as it was made, and by whether its writes mix: what they hold, as long as
-- no call failed, and all that a crash may leave of them.
pub record Tells (mixes : Bool) (calls : CallsValue) (failed : ℕ) (made : List DeviceCall) : Type 0 where
  pub unfailed : failed ≡ 0 → IsUnfailed made
  pub holds : failed ≡ 0 → (first holds left : Image) → FilesAfterBy mixes first made holds left → holds ≡ reads_by calls.start (all_of calls)
  pub leaves : (first holds left : Image) → FilesAfterBy mixes first made holds left → OrdersMayLeave mixes calls.start (all_of calls) left

-- What is always true of a disk over a device, of which this was asked.
pub record IsToldDisk (noted : DeferredDisk) (failed : ℕ) (made : List DeviceCall) : Type 0 where
  pub fewer : (state_by_calls noted).failures ≤ failed
  pub tells : Tells noted.mixes (calls_of noted) failed made

-- Both files were synced, and then each was read whole; nothing else was asked. What was read is what was noted.
pub record IsSyncedAndRead (noted : DeferredDisk) (made after : List DeviceCall) : Type 0 where
  pub a : List ℕ
  pub b : List ℕ
  pub between : List DeviceCall
  pub holds : calls_of noted ≡ first_calls a b
  pub first : IsDeviceRead A a (done (syncs B) ∷ done (syncs A) ∷ made) between
  pub second : IsDeviceRead B b between after
