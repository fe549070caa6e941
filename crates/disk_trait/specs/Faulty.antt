-- A disk some of whose calls fail.
use Rattle.std.specs.Prelude.{◌≡◌, ℕ, zero, suc, ◌+◌, Bool, true, false, Option, Some, None, Result, IsErr, refl}
use Rattle.std.specs.Coded.{Coded, code_by, coded×, coded_ℕ}
use Rattle.disk_trait.specs.Disk.{State}
use Rattle.disk_trait.specs.declared.disk.DeviceFault.{DeviceFault}

-- the disk inside, which of the calls to come fail, and how many it has let fail
pub record FaultyValue (D F : Type 0) : Type 0 where
  pub disk : D
  pub faults : F
  pub failed : ℕ

-- It is as the disk inside, but for the calls that it has let fail itself.
abbrev pub faulty : {D F : Type 0} → (D → State) → FaultyValue D F → State
faulty state f = record (state f.disk) { failures = (state f.disk).failures + f.failed }

-- One call: if it is one that fails it fails, and the disk inside is as it was.
pub record Strikes {D F T : Type 0} (strikes : F → Bool) (next : F → F) (old new : FaultyValue D F) (result : Result T DeviceFault) : Type 0 where
  pub after : new.faults ≡ next old.faults
  pub fails : strikes old.faults ≡ true → IsErr result × (new.disk ≡ old.disk)
  pub passes : strikes old.faults ≡ false → new.failed ≡ old.failed

-- ---- a fuse, which lets some calls pass and none after them

-- no call is left before the one that fails
abbrev pub fails_next : ℕ → Bool
fails_next zero = true
fails_next (suc calls) = false

-- ---- one call, after so many; none, once it has failed

-- the next call fails
abbrev pub is_due : Option ℕ → Bool
is_due None = false
is_due (Some calls) = fails_next calls

-- after that call; once it has failed none is to fail
abbrev pub before_next : Option ℕ → Option ℕ
before_next None = None
before_next (Some zero) = None
before_next (Some (suc calls)) = Some calls

-- a faulty disk is told apart by the disk under it, its plan of faults and their count
abbrev pub faulty_code : {D F : Type 0} → Coded D → Coded F → Coded (FaultyValue D F)
faulty_code {D} {F} disk faults = code_by (D × (F × ℕ)) (coded× disk (coded× faults coded_ℕ)) (λ f. (f.disk, (f.faults, f.failed)))
    (λ t. record { disk = t.0; faults = t.1.0; failed = t.1.1 }) (λ _. refl)
