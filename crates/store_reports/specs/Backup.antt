-- What a backup does, and what it leaves.
use Rattle.std.specs.Prelude.{◌≡◌, ◌≢◌, ◌⊎◌, Bool, ℕ, ◌^◌, ◌<◌, min, List, [], length, Option, None, Some, Ok, Err}
use Rattle.disk_trait.specs.Disk.{IsDurable, IsHonest, State, Told}
use Rattle.disk_trait.specs.declared.host.HostError.{HostError}
use Rattle.disk_trait.specs.declared.host.IfMissing.TheVariants.{Make, Refuse}
use Rattle.gate_log.specs.Failures.{is_open_fault, is_read_fault, is_start_fault}
use Rattle.gate_log.specs.Layout.{Contents, half_base, next_version}
use Rattle.gate_log.specs.Log.{FilesMean, new_contents}
use Rattle.gate_log.specs.Opening.{Refuses}
use Rattle.gate_log.specs.Step.{WritesNothing}
use Rattle.gate_log.specs.declared.error.OpenRefusal.{OpenRefusal}
use Rattle.gate_log.specs.declared.error.ReadError.{ReadError}
use Rattle.gate_log.specs.declared.error.ReadError.TheVariants as reading
use Rattle.gate_log.specs.declared.error.StartError.{StartError}
use Rattle.gate_log.specs.declared.error.StartError.TheVariants as starting
use Rattle.lisp_object.specs.declared.refusal.TheConstants.{DEVICE}
use Rattle.plist_state.specs.State.{WorldState}
use Rattle.world_text.specs.Snapshot.{snapshot}
use Rattle.store_reports.specs.LogRefusals.{open_number, read_number, start_number}
use Rattle.store_reports.specs.NewStorePlaces.{Deed, begun, not_begun, opened, told, placed, not_placed, taken_away}
use Rattle.store_reports.specs.declared.backups.BackupError.{BackupError}
use Rattle.store_reports.specs.declared.backups.BackupError.TheVariants as errors

-- ---- a log

-- the log holds the text of this world, in the version that is begun on a disk that mixes or does not, and no record, and a crash leaves it so
pub record HoldsWorld (mixes : Bool) (world : WorldState) (disk : State) : Type 0 where
  pub holds : FilesMean (Some (new_contents mixes None (snapshot world))) disk.reads
  pub durable : IsDurable disk

-- a half is open, of this version, and has no record
abbrev pub HoldsNoRecord : ℕ → Option Contents → Type 0
HoldsNoRecord version None = ⊥
HoldsNoRecord version (Some k) = (k.version ≡ version) × (k.entries ≡ [])

-- a half is open with this snapshot, of this version, and has no record
abbrev pub HoldsTextAlone : ℕ → List ℕ → Option Contents → Type 0
HoldsTextAlone version text None = ⊥
HoldsTextAlone version text (Some k) = HoldsNoRecord version (Some k) × (k.snapshot ≡ text)

-- the disk held a log already, and nothing was written
pub record IsLogLeft (old new : State) : Type 0 where
  pub contents : Contents
  pub held : FilesMean (Some contents) old.reads
  pub rests : WritesNothing old new

-- ---- why a log is refused, with this number

-- the files of the backup were not opened as a log, with this number
pub record IsBackupUnopened (number : ℕ) (old new : State) : Type 0 where
  pub refusal : OpenRefusal
  pub number_is : number ≡ open_number refusal
  pub told : Told (is_open_fault refusal) old new
  pub why : IsHonest old → Refuses refusal old.reads

-- its half was not read; of an honest disk it is not damaged
pub record IsHalfUnread (number : ℕ) (old new : State) : Type 0 where
  pub error : ReadError
  pub number_is : number ≡ read_number error
  pub told : Told (is_read_fault error) old new
  pub whole : IsHonest old → error ≢ reading.Damaged

-- its half was not started: the device failed, or the text is too long for a half that is begun on this disk, or there was no memory
pub record IsHalfUnstarted (limit : ℕ) (text : List ℕ) (number : ℕ) (old new : State) : Type 0 where
  pub error : StartError
  pub number_is : number ≡ start_number error
  pub told : Told (is_start_fault error) old new
  pub large : error ≡ starting.TooLarge → (min limit (2 ^ 40) < half_base (next_version old.mixes 0) (length text)) ⊎ (4294967295 < length text)

-- why a log was not begun with a world
abbrev pub IsNotBegun : ℕ → WorldState → State → State → BackupError → Type 0
IsNotBegun limit world old new errors.Exists = IsHonest old → IsLogLeft old new
IsNotBegun limit world old new errors.OutOfMemory = Unit {0}
IsNotBegun limit world old new (errors.Unfinished name) = ⊥
IsNotBegun limit world old new (errors.Host error) = ⊥
IsNotBegun limit world old new (errors.Refused number) = IsBackupUnopened number old new ⊎ IsHalfUnstarted limit (snapshot world) number old new
IsNotBegun limit world old new errors.Differs = ⊥

-- ---- a backup at a place, by what was done

-- a fault of the device is told with the cause that the disk tells, if it tells one
abbrev pub IsToldAs : {D : Type 0} → (Deed D → Type 0) → D → BackupError → BackupError → Type 0
IsToldAs does disk why error =
    (error ≡ why) ⊎ ((cause : HostError) × does (told disk (Some cause)) × (why ≡ errors.Refused DEVICE) × (error ≡ errors.Host cause))

module _ {D : Type 0} (state : D → State) (does : Deed D → Type 0) (limit : ℕ) (world : WorldState) (dir : List ℕ) where
  -- The files were opened, and the world was written to them: of an honest disk it is what they hold then.
  pub record IsCopyWritten : Type 0 where
    pub first : D
    pub last : D
    pub opens : does (opened dir Make (Ok first))
    pub holds : IsHonest (state first) → HoldsWorld (state first).mixes world (state last)

  -- the files were not opened, or the world was not written to them
  abbrev pub IsCopyUnwritten : BackupError → Type 0
  IsCopyUnwritten error =
      ((cause : HostError) × does (opened dir Make (Err cause)) × (error ≡ errors.Host cause))
      ⊎ ((first : D) × (last : D) × does (opened dir Make (Ok first))
      × ((why : BackupError) × IsNotBegun limit world (state first) (state last) why × IsToldAs does last why error))

  -- They were opened again: of an honest disk they hold the text of the world, and no record.
  pub record IsCompared : Type 0 where
    pub again : D
    pub opens : does (opened dir Refuse (Ok again))
    pub holds : IsHonest (state again) → (k : Option Contents) × FilesMean k (state again).reads × HoldsTextAlone (next_version (state again).mixes 0) (snapshot world) k

  -- of an honest disk they hold something else
  pub record HoldsOther (again : D) : Type 0 where
    pub other : IsHonest (state again) → (k : Option Contents) × FilesMean k (state again).reads × (HoldsTextAlone (next_version (state again).mixes 0) (snapshot world) k → ⊥)

  -- the files were not opened again, or not read; or they hold something else; or there was no memory for the text
  abbrev pub IsUncompared : BackupError → Type 0
  IsUncompared error =
      (error ≡ errors.OutOfMemory)
      ⊎ (((cause : HostError) × does (opened dir Refuse (Err cause)) × (error ≡ errors.Host cause))
      ⊎ ((again : D) × does (opened dir Refuse (Ok again))
      × (((error ≡ errors.Differs) × HoldsOther again)
      ⊎ ((number : ℕ) × (last : D) × (error ≡ errors.Refused number)
      × (IsBackupUnopened number (state again) (state last) ⊎ IsHalfUnread number (state again) (state last))))))

  -- the new store was written, opened again and compared, and then got its name
  pub record HasItsName : Type 0 where
    pub written : IsCopyWritten
    pub compared : IsCompared
    pub named : does (placed dir)

  -- the new store was not written, or not compared, or did not get its name
  abbrev pub IsCopyUnplaced : BackupError → Type 0
  IsCopyUnplaced error = IsCopyUnwritten error ⊎ (IsUncompared error ⊎ does (not_placed dir error))

  -- The new store is at the place.
  pub record IsBackupMade : Type 0 where
    pub begins : does (begun dir)
    pub ends : HasItsName

  -- No new store is at the place, and this is why. What was begun was taken away.
  abbrev pub HasNoBackup : BackupError → Type 0
  HasNoBackup error = does (not_begun dir error) ⊎ (does (begun dir) × does (taken_away dir) × IsCopyUnplaced error)
