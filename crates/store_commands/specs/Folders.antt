-- What the opening of a folder gives.
use Rattle.std.specs.Prelude.{◌≡◌, ◌⊎◌, Bool, true, false, Decides, IfOk, Option, None, Some, Result, Ok, Err}
use Rattle.clap.specs.Words.{Text}
use Rattle.disk_trait.specs.Disk.{Counts, Image, IsHonest, State}
use Rattle.disk_trait.specs.declared.disk.DeviceFault.{DeviceFault}
use Rattle.disk_trait.specs.declared.host.HostError.{HostError}
use Rattle.disk_trait.specs.declared.host.HostError.TheVariants.{NoStore}
use Rattle.disk_trait.specs.declared.host.IfMissing.{IfMissing}
use Rattle.disk_trait.specs.declared.host.IfMissing.TheVariants.{Make, Refuse}
use Rattle.gate_log.specs.Layout.{HasOpenGate}
use Rattle.gate_log.specs.Step.{WritesNothing}
use Rattle.lisp_object.specs.declared.refusal.TheConstants.{DEVICE}
use Rattle.store_commands.specs.Status.{status_of_host}
use Rattle.store_commands.specs.declared.status.Status.TheVariants.{Fault}

-- one of both files is an open half
abbrev pub HoldsStore : Image → Type 0
HoldsStore image = HasOpenGate image.a ⊎ HasOpenGate image.b

-- The files are looked at for whether this holds of them, and nothing is written. Of an honest disk the answer is true.
pub record LooksWhether (P : Image → Type 0) (old new : State) (result : Result Bool DeviceFault) : Type 0 where
  pub counts : Counts old new result
  pub rests : IsHonest old → WritesNothing old new
  pub answer : IfOk result (λ yes. IsHonest old → Decides yes (P old.reads))

-- the error after a call of the disk that failed: the one that the disk tells, if it tells one
abbrev pub IsFailureOf : {D : Type 0} → (D → Option HostError → Type 0) → D → HostError → Type 0
IsFailureOf tells disk error = (status_of_host error ≡ Fault DEVICE) × (tells disk (Some error) ⊎ tells disk None)

module _ {D : Type 0} (state : D → State) (tells : D → Option HostError → Type 0) where
  -- such a look ends with this error: there is no store, or the device failed
  abbrev pub LooksInVain : D → D → HostError → Type 0
  LooksInVain first last error =
      (LooksWhether HoldsStore (state first) (state last) (Ok false) × (error ≡ NoStore))
      ⊎ ((fault : DeviceFault) × LooksWhether HoldsStore (state first) (state last) (Err fault) × IsFailureOf tells last error)

  -- What is missing in a folder is made. Or, where an existing store is asked for, nothing is made, and it is refused if neither of
  -- both files is an open half.
  abbrev pub OpensStore : (Text → IfMissing → Result D HostError → Type 0) → Text → Bool → Result D HostError → Type 0
  OpensStore opens folder false result = opens folder Make result
  OpensStore opens folder true (Ok disk) = (first : D) × opens folder Refuse (Ok first) × LooksWhether HoldsStore (state first) (state disk) (Ok true)
  OpensStore opens folder true (Err error) = opens folder Refuse (Err error) ⊎ ((first : D) × (last : D) × opens folder Refuse (Ok first) × LooksInVain first last error)
