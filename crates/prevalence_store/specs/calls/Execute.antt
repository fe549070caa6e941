-- What `execute` answers, each answer with its cause and with what is left after it.
use Rattle.std.specs.Prelude.{Bool, true, false, ◌≡◌, ◌⊎◌, ℕ, ◌+◌, ◌<◌, ◌≤◌, List, [], ◌∷◌, length, None, Some, Ok, Err}
use Rattle.disk_trait.specs.Disk.{State, IsHonest}
use Rattle.disk_trait.specs.Half.{opposite_of}
use Rattle.disk_trait.specs.declared.half.Half.{Half}
use Rattle.gate_log.specs.Layout.{Contents, LogRecord, size_of_record, with_record}
use Rattle.lisp_object.specs.Object.{Object}
use Rattle.lisp_object.specs.Datum.{object_of, is_proper}
use Rattle.lisp_operators.specs.EvaluationAnswers.{IsArgument}
use Rattle.lisp_object.specs.declared.refusal.TheConstants.{DEVICE, LOG_FULL, NO_MEMORY, REOPEN}
use Rattle.session_words.specs.declared.mode.Mode.{Mode}
use Rattle.prevalence_store.specs.declared.outcome.Outcome.{Outcome}
use Rattle.prevalence_store.specs.declared.outcome.Outcome.TheVariants.{Accepted, Snapshotted, Refused}
use Rattle.prevalence_store.specs.meaning.Acceptance.{Acceptance, accepts, accepted_record, records_of}
use Rattle.prevalence_store.specs.calls.Store.{LeavesAlone, StoreView, Describes}
use Rattle.prevalence_store.specs.Theorem.{Keeps, Survives}
use Rattle.plist_state.specs.State.{WorldState}
use Rattle.user_macros.specs.Functions.{Functions}

-- A store without a world answers nothing, until it is opened again.
abbrev pub AsksToReopen : {D R : Type 0} → (old new : StoreView D R) → Outcome → Type 0
AsksToReopen old new outcome = (outcome ≡ Refused REOPEN) × (new ≡ old)

-- ---- what is left of a form

module _ {D R : Type 0} (state : D → State) (old new : StoreView D R) where
  -- A form with this text was logged, and left this world. On an honest disk its record, which is its mode and its text,
  -- comes after those that were there, and the store tells of it.
  pub record Logs (mode : Mode) (text : List ℕ) (world : WorldState) : Type 0 where
    pub left : new.world ≡ Some world
    pub half : new.half ≡ old.half
    pub version : new.version ≡ old.version
    pub generation : new.generation ≡ old.generation
    pub record_count : new.record_count ≡ old.record_count + 1
    pub size : new.size ≡ old.size + size_of_record old.version (length text)
    pub first_size : new.first_size ≡ old.first_size
    pub fits : new.size ≤ old.limit
    pub limit : new.limit ≡ old.limit
    pub macros : new.macros ≡ old.macros
    pub described : (k : Contents) → IsHonest (state old.disk) → Describes old k (state old.disk).reads
        → Describes new (with_record k (accepted_record mode text)) (state new.disk).reads
    pub other : IsHonest (state old.disk) → LeavesAlone (opposite_of old.half) (state old.disk) (state new.disk)
    pub failures : (state new.disk).failures ≡ (state old.disk).failures
    pub mixes : (state new.disk).mixes ≡ (state old.disk).mixes

  -- A form that wrote was logged. One that wrote nothing left all as it was, the disk too.
  abbrev pub Stores : Bool → Mode → List ℕ → WorldState → Type 0
  Stores true mode text world = Logs mode text world
  Stores false mode text world = (new ≡ old) × (new.world ≡ Some world)

  -- The device failed in the call. Nothing is known of the world until the store is opened again.
  pub record DeviceFails (alone : Half) : Type 0 where
    pub unknown : new.world ≡ None
    pub half : new.half ≡ old.half
    pub version : new.version ≡ old.version
    pub generation : new.generation ≡ old.generation
    pub record_count : new.record_count ≡ old.record_count
    pub size : new.size ≡ old.size
    pub first_size : new.first_size ≡ old.first_size
    pub limit : new.limit ≡ old.limit
    pub macros : new.macros ≡ old.macros
    -- this half was left alone
    pub other : IsHonest (state old.disk) → LeavesAlone alone (state old.disk) (state new.disk)
    pub failures : (state new.disk).failures ≡ (state old.disk).failures + 1
    pub mixes : (state new.disk).mixes ≡ (state old.disk).mixes

-- ---- what became of a text, in the world that the store had

module _ (functions : Functions) {D R : Type 0} (state : D → State) (old new : StoreView D R) where
  -- what a crash leaves: on an honest disk of which each crash would have left the world that was there
  abbrev pub SurvivesAs : WorldState → List LogRecord → ℕ → Type 0
  SurvivesAs world taken acknowledged =
      old.world ≡ Some world → IsHonest (state old.disk) → Keeps functions (state old.disk) world
      → Survives functions (state old.disk) (state new.disk) world taken acknowledged new.world

  module _ (world : WorldState) (mode : Mode) (text : List ℕ) where
    -- the world accepts the text, and what it wrote was logged
    pub record IsTextAccepted (value : Object) : Type 0 where
      pub given : Acceptance
      pub accepted : accepts functions world mode text ≡ Ok given
      pub answered : value ≡ given.value
      pub stored : Stores state old new given.wrote mode given.text given.world
      -- the device has not failed, so the disk may be opened again
      pub calm : (state new.disk).failures ≡ (state old.disk).failures
      pub survives : SurvivesAs world (records_of given.wrote mode given.text) (length (records_of given.wrote mode given.text))

    -- the world does not accept the text, and this is why
    pub record IsTurnedDown (number : ℕ) : Type 0 where
      pub refused : accepts functions world mode text ≡ Err number
      pub unchanged : new ≡ old
      pub survives : SurvivesAs world [] 0

    -- the world accepts the text, which writes, and the half would pass its limit by the record
    pub record HasNoRoom (number : ℕ) : Type 0 where
      pub full : number ≡ LOG_FULL
      pub given : Acceptance
      pub accepted : accepts functions world mode text ≡ Ok given
      pub wrote : given.wrote ≡ true
      pub over : old.limit < old.size + size_of_record old.version (length given.text)
      pub unchanged : new ≡ old
      pub survives : SurvivesAs world [] 0

    -- the world accepts the text, which writes, there is room for the record, and the device failed
    pub record IsFault (number : ℕ) : Type 0 where
      pub device : number ≡ DEVICE
      pub given : Acceptance
      pub accepted : accepts functions world mode text ≡ Ok given
      pub wrote : given.wrote ≡ true
      pub fits : old.size + size_of_record old.version (length given.text) ≤ old.limit
      pub failed : DeviceFails state old new (opposite_of old.half)
      pub survives : SurvivesAs world (accepted_record mode given.text ∷ []) 0

    -- a growth was refused
    pub record HasNoMemory (number : ℕ) : Type 0 where
      pub memory : number ≡ NO_MEMORY
      pub unchanged : new ≡ old
      pub survives : SurvivesAs world [] 0

    -- what `execute` answers, each answer with its cause
    abbrev pub Executes : Outcome → Type 0
    Executes (Accepted value) = IsTextAccepted (object_of value)
    Executes Snapshotted = ⊥
    Executes (Refused number) = IsTurnedDown number ⊎ (HasNoRoom number ⊎ (IsFault number ⊎ HasNoMemory number))

-- A value that is answered is proper: its numbers are in range, its ratios in lowest terms, its bytes below 128.
abbrev pub IsProperOutcome : Outcome → Type 0
IsProperOutcome (Accepted value) = is_proper value ≡ true
IsProperOutcome Snapshotted = Unit {0}
IsProperOutcome (Refused number) = Unit {0}

-- And it may be stored in the world that the form left: its symbols are there. So it can be printed there, and read back.
abbrev pub IsValueIn : WorldState → Outcome → Type 0
IsValueIn world (Accepted value) = IsArgument world.packages value
IsValueIn world Snapshotted = Unit {0}
IsValueIn world (Refused number) = Unit {0}
