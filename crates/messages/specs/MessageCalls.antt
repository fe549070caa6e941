-- What the calls of a store that carries out messages answer, and what is left after them.
use Rattle.std.specs.Prelude.{◌≡◌, ◌⊎◌, ℕ, ◌+◌, ◌<◌, ◌≤◌, Bool, true, false, List, [], ◌∷◌, ◌++◌, length, map, Option, None, Some, IsSome, Result, Ok, Err}
use Rattle.disk_trait.specs.Disk.{State}
use Rattle.disk_trait.specs.Half.{opposite_of}
use Rattle.gate_log.specs.Layout.{LogRecord, batch_size}
use Rattle.lisp_object.specs.Object.{Object}
use Rattle.lisp_reading.specs.Reading.{form}
use Rattle.lisp_object.specs.declared.refusal.TheConstants.{NO_MEMORY}
use Rattle.package_table.specs.Symbols.{are_there}
use Rattle.plist_state.specs.State.{WorldState}
use Rattle.prevalence_store.specs.declared.failure.Unlogged.{Unlogged}
use Rattle.prevalence_store.specs.declared.failure.Unlogged.TheVariants.{Full}
use Rattle.messages.specs.declared.own.Own.{Own}
use Rattle.messages.specs.declared.own.Own.TheVariants.{Clearing, Position}
use Rattle.messages.specs.declared.request.Replies.{Replies}
use Rattle.messages.specs.declared.request.Request.{Request}
use Rattle.messages.specs.declared.request.TheConstants.{NO_POSITION}
use Rattle.session_words.specs.declared.mode.Mode.TheVariants.{Rescue}
use Rattle.prevalence_store.specs.declared.outcome.Outcome.TheVariants.{Refused}
use Rattle.prevalence_store.specs.calls.Execute.{DeviceFails, Executes, IsTextAccepted, SurvivesAs}
use Rattle.prevalence_store.specs.calls.ExecuteAll.{AllOrNone, LogsAll}
use Rattle.prevalence_store.specs.calls.Store.{StoreView}
use Rattle.prevalence_store.specs.meaning.Acceptance.{accepts, after, read_in}
use Rattle.messages.specs.MessageAnswers.{Round, round_after_requests, first_round, each_request}
use Rattle.messages.specs.Position.{is_position_hidden, own_form, own_text, position, position_property}
use Rattle.messages.specs.Rounds.{told_in}
use Rattle.prevalence_store.specs.steps.Failure.{failure_number, is_unlogged_by_device}
use Rattle.user_macros.specs.Functions.{Functions}

-- where no message wrote nothing is left of requests
abbrev pub entries_by : Bool → List LogRecord → List LogRecord
entries_by true entries = entries
entries_by false entries = []

-- the world after requests of which a message wrote, else the one before them
abbrev pub left_after : Bool → WorldState → WorldState → WorldState
left_after true world left = left
left_after false world left = world

-- ---- a form of the store's own that is refused

-- It is read in this world as what it is, and the packages have each symbol of it.
pub record IsOwnRead (functions : Functions) (world : WorldState) (own : Own) : Type 0 where
  pub reads : read_in functions world Rescue (own_text own) ≡ form (own_form own) 0 (length (own_text own)) (length (own_text own))
  pub all_there : are_there world.packages (own_form own) ≡ true

-- its text is refused in this world; or, with 52, it is not read as what it is, or a symbol of it is not there
abbrev pub IsOwnRefused : Functions → WorldState → Own → ℕ → Type 0
IsOwnRefused functions world own number = (accepts functions world Rescue (own_text own) ≡ Err number) ⊎ ((number ≡ NO_POSITION) × (IsOwnRead functions world own → ⊥))

-- the position, which is there, is not taken out: the form that does so is refused with this number
abbrev pub IsNotCleared : Functions → Round → ℕ → Type 0
IsNotCleared functions round number = IsSome (position_property round.left) × IsOwnRefused functions round.left Clearing number

-- the last number, after which a message wrote, does not become the position
abbrev pub IsNotClosed : Functions → Round → ℕ → Type 0
IsNotClosed functions round number = (round.wrote ≡ true) × IsOwnRefused functions round.left (Position round.last) number

-- a question, or a message whose number is over the last one
abbrev pub IsNotOld : Round → Option ℕ → Type 0
IsNotOld round None = Unit {0}
IsNotOld round (Some number) = round.last < number

-- before this request, which is not old, the position is not taken out
abbrev pub RefusesRequest : Functions → Round → Request → ℕ → Type 0
RefusesRequest functions round request number = IsNotOld round request.number × IsNotCleared functions round number

-- A refusal of requests is one of a form of the store's own: before one of them, or after all.
abbrev pub RefusesOwn : Functions → Round → List Request → ℕ → Type 0
RefusesOwn functions first requests number =
    ((before : List Request) × (request : Request) × (later : List Request) × (requests ≡ before ++ request ∷ later)
    × RefusesRequest functions (each_request functions first before) request number)
    ⊎ IsNotClosed functions (each_request functions first requests) number

module _ (functions : Functions) {D R : Type 0} (state : D → State) (old new : StoreView D R) (world : WorldState) (round : Round) where
  -- what the requests leave in the log
  abbrev pub records : List LogRecord
  records = entries_by round.wrote round.entries

  -- The requests have these answers, and what came of them was logged together, with the position. Where no message wrote, all is as
  -- it was, the disk too.
  pub record AreAnsweredAndLogged (replies : Replies) : Type 0 where
    pub told : map told_in replies.answers.items ≡ round.told
    pub last : replies.last ≡ round.last
    pub logs : LogsAll state old new records (left_after round.wrote world round.left)
    pub survives : SurvivesAs functions state old new world records (length records)
    pub all_or_none : AllOrNone functions state old new world records

  -- the device failed as it was logged, for which there was room: all of it may be in the file, or nothing
  pub record FailOnDevice : Type 0 where
    pub again : after functions world records ≡ Some round.left
    pub some : 0 < length records
    pub fits : old.size + batch_size old.version records ≤ old.limit
    pub failed : DeviceFails state old new (opposite_of old.half)
    pub survives : SurvivesAs functions state old new world records 0
    pub all_or_none : AllOrNone functions state old new world records

  -- They were not logged, and this is why. Unless the device failed all is as it was.
  pub record AreNotAnswered (cause : Unlogged) : Type 0 where
    pub unchanged : is_unlogged_by_device cause ≡ false → new ≡ old
    pub full : cause ≡ Full → (0 < length records) × (old.limit < old.size + batch_size old.version records)
    pub stopped : is_unlogged_by_device cause ≡ true → FailOnDevice

module _ (functions : Functions) {D R : Type 0} (state : D → State) (old new : StoreView D R) (world : WorldState) where
  -- What `answer_requests` answers, each answer with its cause: a form of the store's own is refused, or what they need is not logged.
  abbrev pub AnswersRequests : ℕ → List Request → Result Replies ℕ → Type 0
  AnswersRequests last requests (Ok replies) = AreAnsweredAndLogged functions state old new world (round_after_requests functions (first_round last world) requests) replies
  AnswersRequests last requests (Err number) =
      (RefusesOwn functions (first_round last world) requests number × (new ≡ old))
      ⊎ ((cause : Unlogged) × (number ≡ failure_number cause) × AreNotAnswered functions state old new world (round_after_requests functions (first_round last world) requests) cause)

  -- the form that sets the position to 0 was accepted, and logged if it wrote
  abbrev pub SetsFirst : Type 0
  SetsFirst = (value : Object) × IsTextAccepted functions state old new world Rescue (own_text (Position 0)) value

  -- What `begin_messages` answers: the position, which is there or was set to 0. Another symbol's property is never set.
  abbrev pub BeginsMessages : Result ℕ ℕ → Type 0
  BeginsMessages (Ok number) =
      ((position world ≡ Some number) × (new ≡ old)) ⊎ ((number ≡ 0) × (position_property world ≡ None) × (is_position_hidden world ≡ false) × SetsFirst)
  BeginsMessages (Err number) =
      ((number ≡ NO_POSITION) × (position world ≡ None) × IsSome (position_property world) × (new ≡ old))
      ⊎ (((number ≡ NO_POSITION) × (position_property world ≡ None) × (is_position_hidden world ≡ true) × (new ≡ old))
      ⊎ (((number ≡ NO_MEMORY) × (new ≡ old))
      ⊎ ((position_property world ≡ None) × (is_position_hidden world ≡ false)
      × Executes functions state old new world Rescue (own_text (Position 0)) (Refused number))))
