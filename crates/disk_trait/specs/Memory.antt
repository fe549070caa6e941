-- What a disk in memory is, as a state, and what a crash makes of it.
use Rattle.std.specs.Prelude.{◌≡◌, ℕ, Bool, true, false, List, ◌+◌, length, take, Result, OnOk, OnErr}
use Rattle.disk_trait.specs.Crash.{left_by}
use Rattle.disk_trait.specs.Disk.{Image, State, Allows, Changes, TornCut, Elapses, Mixed, OnHalf, Torn, file_of, written}
use Rattle.disk_trait.specs.Replay.{state_after_calls}
use Rattle.disk_trait.specs.declared.crash.Crash.{Crash}
use Rattle.disk_trait.specs.declared.half.Half.{Half}
use Rattle.disk_trait.specs.declared.half.Half.TheVariants.{A, B}
use Rattle.disk_trait.specs.declared.memory.MemoryDisk.{MemoryDisk}

-- what a disk in memory is, told from the bytes that it began with and its calls since
abbrev pub state_of : MemoryDisk → State
state_of m = state_after_calls m.mixes (record { a = m.start_a.items; b = m.start_b.items }) m.calls.items m.failures

-- what a crash of this kind leaves
abbrev pub left_image : Crash → MemoryDisk → Image
left_image kind m = record { a = left_by kind A m.calls.items m.start_a.items; b = left_by kind B m.calls.items m.start_b.items }

-- Nothing was done: a read gives what it gave, no time went on, and a crash leaves what it might have left, no less and no more.
pub record IsCallUndone (old new : State) : Type 0 where
  pub reads : new.reads ≡ old.reads
  pub moment : new.moment ≡ old.moment
  pub no_more : (c : Image) → new.may_leave c → old.may_leave c
  pub no_less : (c : Image) → old.may_leave c → new.may_leave c
  pub time : Elapses old new

-- the clock has gone on by one call
abbrev pub IsNotedCall : State → State → Type 0
IsNotedCall old new = new.moment ≡ old.moment + 1

-- A call that this disk takes a record of: of a crash after it no less is left than the step allows; if it fails, it was not
-- taken.
pub record IsCallRecorded {T E : Type 0} (Leaves : Type 0) (old new : State) (result : Result T E) : Type 0 where
  pub allows : OnOk result Leaves
  pub undone : OnErr result (IsCallUndone old new)
  pub noted : OnOk result (IsNotedCall old new)
  pub mixes : new.mixes ≡ old.mixes

-- a call that takes this step
abbrev pub RecordsStep : {T E : Type 0} → (Image → Image → Type 0) → State → State → Result T E → Type 0
RecordsStep step old new result = IsCallRecorded (Allows step old new) old new result

-- a call that takes none
abbrev pub RecordsLook : {T E : Type 0} → State → State → Result T E → Type 0
RecordsLook old new result = RecordsStep (λ _ _. ⊥) old new result

-- what a crash may leave of a write, by whether the disk mixes
abbrev pub WriteLeaves : Bool → ℕ → List ℕ → List ℕ → List ℕ → Type 0
WriteLeaves false at bytes = Torn at (length bytes)
WriteLeaves true at bytes = Mixed at bytes

-- a call that takes the step of a write
abbrev pub RecordsWrite : {T E : Type 0} → Half → ℕ → List ℕ → State → State → Result T E → Type 0
RecordsWrite half at bytes old new result = RecordsStep (OnHalf half (WriteLeaves old.mixes at bytes)) old new result

-- a call that takes the step of a cut
abbrev pub RecordsCut : {T E : Type 0} → Half → ℕ → State → State → Result T E → Type 0
RecordsCut half len old new result = RecordsStep (OnHalf half (TornCut len)) old new result

-- a sync: of what a crash might have left there is left what a read gives of the half
abbrev pub RecordsSync : {T E : Type 0} → Half → State → State → Result T E → Type 0
RecordsSync half old new result =
    IsCallRecorded ((c : Image) → old.may_leave c → file_of half c ≡ file_of half old.reads → new.may_leave c) old new result

-- a write or a cut that was not refused
pub record TakesChange (Tears Does : Image → Image → Type 0) (old new : State) : Type 0 where
  pub tears : Changes Tears old new
  pub done : Does old.reads new.reads

-- a write is done, with what a crash may leave of it
abbrev pub TakesWrite : Half → ℕ → List ℕ → State → State → Type 0
TakesWrite half at bytes old new = TakesChange (OnHalf half (WriteLeaves old.mixes at bytes)) (OnHalf half (λ file next. next ≡ written at bytes file)) old new

-- a cut is done, with what a crash may leave of it
abbrev pub TakesCut : Half → ℕ → State → State → Type 0
TakesCut half len = TakesChange (OnHalf half (TornCut len)) (OnHalf half (λ file next. next ≡ take len file))
