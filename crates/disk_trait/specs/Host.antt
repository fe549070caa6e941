-- A disk of which nothing is claimed but its count of failures and whether its writes are said to mix, and the descriptors of its files.
use Rattle.std.specs.Prelude.{ℕ, Bool, false, [], pos, ◌<ℤ◌}
use Rattle.std.specs.Fd.{file_raw_fd}
use Rattle.std.specs.declared.fs.File.{File}
use Rattle.disk_trait.specs.Disk.{State, IsHonest, IsSoundDisk, at_once}

-- a disk of which nothing is claimed, but how often it failed
abbrev pub disk_without_claims : Bool → ℕ → State
disk_without_claims mixes failures = record {
  honest = false;
  mixes = mixes;
  reads = record { a = []; b = [] };
  may_leave = λ c. ⊥;
  moment = 0;
  left_since = λ t c. ⊥;
  failures = failures;
  performed = at_once;
}

-- a disk of which nothing is claimed is sound
pub sound_unclaimed : (mixes : Bool) (failures : ℕ) → IsHonest (disk_without_claims mixes failures) → IsSoundDisk (disk_without_claims mixes failures)
sound_unclaimed mixes failures honest = absurd (cc)

-- The file's descriptor is none of the three standard streams: 0, 1 and 2.
abbrev pub IsAboveStreams : File → Type 0
IsAboveStreams file = pos 2 <ℤ file_raw_fd file
