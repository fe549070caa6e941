-- What one try of a look came to.
use Rattle.std.specs.Prelude.{◌≡◌, ◌⊎◌, ℕ, List, length}
use Rattle.disk_trait.specs.Disk.{Image}
use Rattle.gate_log.specs.Layout.{HasOpenGate}
use Rattle.log_look.specs.FilesAtRest.{IsSightOf}
use Rattle.log_look.specs.LookResults.{WasMeant}
use Rattle.log_look.specs.SeenState.{state_of_sight}
use Rattle.log_look.specs.NeitherOpen.{AreShut, WereShut}
use Rattle.log_look.specs.declared.error.LookError.{LookError}
use Rattle.log_look.specs.declared.error.LookError.TheVariants as looking
use Rattle.log_look.specs.declared.tries.Tried.{Tried}
use Rattle.log_look.specs.declared.tries.Tried.TheVariants.{Seen, Shut, Changed}

-- what was seen was meant at one moment
abbrev pub HasSeenOneMoment : Tried → (ℕ → Image) → ℕ → ℕ → Type 0
HasSeenOneMoment (Seen sight) files from to = WasMeant (state_of_sight sight).reads files from to
HasSeenOneMoment Shut files from to = Unit {0}
HasSeenOneMoment Changed files from to = Unit {0}

-- what a try comes to where nobody writes
abbrev pub HasSeenAtRest : Tried → Image → Type 0
HasSeenAtRest (Seen sight) image = IsSightOf image (state_of_sight sight).reads
HasSeenAtRest Shut image = AreShut image
HasSeenAtRest Changed image = ⊥

-- what was seen is a disk that has not failed
abbrev pub HasNoFailure : Tried → Type 0
HasNoFailure (Seen sight) = (state_of_sight sight).failures ≡ 0
HasNoFailure Shut = Unit {0}
HasNoFailure Changed = Unit {0}

-- these first bytes of two halves that say no generation were seen, where they settle what is there; else neither half is open
abbrev pub IsNeither : Tried → List ℕ → List ℕ → Type 0
IsNeither (Seen sight) a b = ((state_of_sight sight).reads ≡ record { a = a; b = b }) × ((length b ≡ 0) ⊎ HasOpenGate a ⊎ HasOpenGate b)
IsNeither Shut a b = AreShut (record { a = a; b = b })
IsNeither Changed a b = ⊥

-- where one try ended so, half A was not open, and half B neither
abbrev pub WasShut : Tried → (ℕ → Image) → ℕ → ℕ → Type 0
WasShut (Seen sight) files from to = Unit {0}
WasShut Shut files from to = WereShut files from to
WasShut Changed files from to = Unit {0}

-- a try did not find both halves shut
abbrev pub IsNotShut : Tried → Type 0
IsNotShut (Seen sight) = Unit {0}
IsNotShut Shut = ⊥
IsNotShut Changed = Unit {0}

-- a word on the machine, and none on what the files hold
abbrev pub IsPassingLook : LookError → Type 0
IsPassingLook looking.OutOfMemory = Unit {0}
IsPassingLook looking.DeviceFault = Unit {0}
IsPassingLook looking.Changing = ⊥
IsPassingLook looking.Shut = ⊥
