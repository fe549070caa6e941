-- What `cut_zeros` answers, each answer with its cause and with what is left after it.
use Rattle.std.specs.Prelude.{◌≡◌, ◌≢◌, ◌⊎◌, ℕ, Bool, true, false, [], None, Some, Result, Ok, Err}
use Rattle.disk_trait.specs.Disk.{State, IsHonest, file_of}
use Rattle.disk_trait.specs.Half.{opposite_of}
use Rattle.batched_half.specs.Version3.{mark_of_one_sync}
use Rattle.gate_log.specs.HalfInUse.{mark_in_file}
use Rattle.gate_log.specs.Layout.{Contents}
use Rattle.gate_log.specs.Zeros.{LosesZeros}
use Rattle.lisp_object.specs.declared.refusal.TheConstants.{DEVICE, NO_MEMORY, REOPEN}
use Rattle.plist_state.specs.State.{WorldState}
use Rattle.prevalence_store.specs.calls.Execute.{DeviceFails, SurvivesAs}
use Rattle.prevalence_store.specs.calls.Store.{LeavesAlone, StoreView, Describes}
use Rattle.user_macros.specs.Functions.{Functions}

module _ (functions : Functions) {D R : Type 0} (state : D → State) (old new : StoreView D R) where
  module _ (world : WorldState) where
    -- If zeros may have been written, and zeros alone stood behind the half in use, its file is the half now; else it is as it was. Of a half
    -- that is kept with one sync, whose zeros are the ground of the next form, the file is not told. But for its disk the store is as it was,
    -- and the half holds what it held.
    pub record LosesItsZeros (wrote : Bool) : Type 0 where
      pub same : new ≡ record old { disk = new.disk }
      pub described : (k : Contents) → IsHonest (state old.disk) → Describes old k (state old.disk).reads
          → Describes new k (state new.disk).reads
      -- where none were written, nothing is done
      pub still : wrote ≡ false → new ≡ old
      pub file : wrote ≡ true → IsHonest (state old.disk) → mark_in_file old.version (file_of old.half (state old.disk).reads) ≢ mark_of_one_sync
          → LosesZeros old.size (file_of old.half (state old.disk).reads) (file_of old.half (state new.disk).reads)
      pub other : IsHonest (state old.disk) → LeavesAlone (opposite_of old.half) (state old.disk) (state new.disk)
      pub failures : (state new.disk).failures ≡ (state old.disk).failures
      pub mixes : (state new.disk).mixes ≡ (state old.disk).mixes
      pub survives : SurvivesAs functions state old new world [] 0

    -- the device failed
    pub record IsZerosFault (number : ℕ) : Type 0 where
      pub device : number ≡ DEVICE
      pub failed : DeviceFails state old new (opposite_of old.half)
      pub survives : SurvivesAs functions state old new world [] 0

    -- a growth was refused
    pub record HasNoZerosMemory (number : ℕ) : Type 0 where
      pub memory : number ≡ NO_MEMORY
      pub unchanged : new ≡ old
      pub survives : SurvivesAs functions state old new world [] 0

    abbrev pub CutsZeros : Bool → Result Unit ℕ → Type 0
    CutsZeros wrote (Ok done) = LosesItsZeros wrote
    CutsZeros wrote (Err number) = IsZerosFault number ⊎ HasNoZerosMemory number

  -- It was tried whether zeros could be cut, whatever was answered. A store without a world is as it was.
  pub record TriesToCutZeros : Type 0 where
    pub wrote : Bool
    pub result : Result Unit ℕ
    pub closed : old.world ≡ None → (result ≡ Err REOPEN) × (new ≡ old)
    pub cuts : (world : WorldState) → old.world ≡ Some world → CutsZeros world wrote result
