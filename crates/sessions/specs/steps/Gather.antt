-- Forms of a piece that are evaluated one after the other and logged together.
use Rattle.std.specs.Prelude.{◌≡◌, ℕ, ◌+◌, ◌<◌, ◌≤◌, ◌^◌, if◌then◌else◌, Bool, true, List, [], ◌++◌, drop, length, Option, None, Some, Result, Ok, Err, IfSome}
use Rattle.std.specs.List.{AllByRecursion}
use Rattle.disk_trait.specs.Disk.{State}
use Rattle.form_eval.specs.Laws.{MayEvaluate}
use Rattle.gate_log.specs.Layout.{IsLogRecord, LogRecord, batch_size, size_of_record}
use Rattle.lisp_object.specs.Datum.{object_of}
use Rattle.lisp_object.specs.Object.{Object}
use Rattle.lisp_operators.specs.Evaluation.{Evaluation}
use Rattle.lisp_reading.specs.Reading.{form}
use Rattle.plist_state.specs.State.{WorldState}
use Rattle.prevalence_store.specs.declared.batch.Batch.{Batch}
use Rattle.prevalence_store.specs.declared.failure.Unlogged.{Unlogged}
use Rattle.prevalence_store.specs.declared.failure.Unlogged.TheVariants.{Full, DeviceFault, OutOfMemory}
use Rattle.session_words.specs.declared.mode.Mode.{Mode}
use Rattle.session_words.specs.declared.wanted.SessionOptions.{SessionOptions}
use Rattle.sessions.specs.declared.gather.GatheredForms.{GatheredForms}
use Rattle.sessions.specs.declared.gather.GroupLimit.{GroupLimit}
use Rattle.sessions.specs.declared.input.Pending.{Pending}
use Rattle.sessions.specs.declared.group.Grouped.{Grouped}
use Rattle.sessions.specs.declared.group.Grouped.TheVariants as grouped
use Rattle.sessions.specs.declared.whole_forms.WholeForms.{WholeForms}
use Rattle.prevalence_store.specs.calls.Store.{StoreView}
use Rattle.prevalence_store.specs.meaning.Acceptance.{after, between, read_in, transaction_value}
use Rattle.sessions.specs.FormAnswers.{Progress, after_forms, form_progress}
use Rattle.sessions.specs.steps.Course.{Course}
use Rattle.prevalence_store.specs.steps.Batch.{entries_in}
use Rattle.sessions.specs.steps.Input.{IsPending}
use Rattle.sessions.specs.steps.Serve.{SessionGoesOn, HasEndedAt}
use Rattle.prevalence_store.specs.steps.Together.{HasFailedInTurn, IsTurnLogged}
use Rattle.user_macros.specs.Functions.{Functions}

-- The text begins with this form, whatever follows it, and this is its own text. So many bytes are passed with it.
pub record BeginsWhole (functions : Functions) (world : WorldState) (mode : Mode) (text : List ℕ) (object : Object) (own : List ℕ) (next : ℕ) : Type 0 where
  pub start : ℕ
  pub stop : ℕ
  pub reads : (more : List ℕ) → read_in functions world mode (text ++ more) ≡ form object start stop next
  pub is_own : own ≡ between start stop text
  pub within : next ≤ length text

-- how many bytes the record of a form with this text takes in a half of this version, if it is logged
abbrev pub size_if_logged : (version : ℕ) (logged : Bool) → List ℕ → ℕ
size_if_logged version logged own = if logged then size_of_record version (length own) else 0

-- no form is gathered yet
pub record HoldsNoForm (gathered : GatheredForms) : Type 0 where
  pub lines : gathered.lines.items ≡ []
  pub records : gathered.records ≡ 0
  pub record_bytes : gathered.record_bytes ≡ 0
  pub forms : gathered.forms ≡ 0
  pub bytes : gathered.bytes ≡ 0

-- Some forms are gathered, of which no more wrote than the limit says, and their records take no more bytes. The first takes
-- so many bytes of the input, and the others are among so many.
pub record AreWithinLimit (next many : ℕ) (limit : GroupLimit) (gathered : GatheredForms) : Type 0 where
  pub some : 0 < gathered.forms
  pub forms : gathered.forms ≤ gathered.bytes
  pub first : next ≤ gathered.bytes
  pub others : gathered.bytes ≤ next + many
  pub records : gathered.records ≤ limit.forms
  pub record_bytes : gathered.record_bytes ≤ limit.bytes
  pub limit_is : gathered.limit ≡ limit

-- A turn over whole forms may be taken in a world in which a text begins with its first form, and goes on as its piece.
pub record MayBeTaken (functions : Functions) (turn : WholeForms) (world : WorldState) : Type 0 where
  pub may : MayEvaluate world.packages turn.first.now.read
  pub some : 0 < turn.first.now.next
  pub room : turn.first.now.next + length turn.rest.now < 2 ^ 63
  pub most : 0 < turn.limit.forms
  pub text : List ℕ
  pub begins : BeginsWhole functions world turn.wanted.mode text (object_of turn.first.now.read.datum) turn.first.now.own.items turn.first.now.next
  pub goes_on : drop turn.first.now.next text ≡ turn.rest.now

module _ (functions : Functions) (wanted : SessionOptions) where
  -- A form of so many bytes was evaluated, and what comes of it was added, its record to the batch.
  pub record IsFormAdded (object : Object) (own : List ℕ) (bytes : ℕ) (before after : WorldState) (had has : Batch) (old new : GatheredForms) : Type 0 where
    pub given : Evaluation Object
    pub valued : transaction_value functions.names before object ≡ given
    pub left : after ≡ (form_progress before wanted.mode own [] given).world
    pub lines : new.lines.items ≡ old.lines.items ++ (form_progress before wanted.mode own [] given).lines
    pub taken : entries_in has ≡ entries_in had ++ (form_progress before wanted.mode own [] given).taken
    pub accepted : wanted.strict ≡ true → (form_progress before wanted.mode own [] given).refused ≡ []
    pub counted : new.records ≡ length (entries_in has)
    pub forms : new.forms ≡ old.forms + 1
    pub bytes_are : new.bytes ≡ old.bytes + bytes
    pub record_bytes : new.record_bytes ≡ old.record_bytes + batch_size old.limit.version (form_progress before wanted.mode own [] given).taken
    pub limit : new.limit ≡ old.limit

  -- the form that these bytes begin with was added, which takes so many of them
  pub record AddsNextForm (piece : List ℕ) (before after : WorldState) (had has : Batch) (old new : GatheredForms) (count : ℕ) : Type 0 where
    pub object : Object
    pub own : List ℕ
    pub begins : BeginsWhole functions before wanted.mode piece object own count
    pub added : IsFormAdded object own count before after had has old new

  -- The first forms of a text were evaluated, each in the world that the ones before it left, and the same ones of any text that goes
  -- on. Their records make the world that is left, and each fits the log.
  pub record AreFormsGathered (first : WorldState) (text : List ℕ) (now : WorldState) (records : List LogRecord) (gathered : GatheredForms) : Type 0 where
    pub far : Progress
    pub stays : (more : List ℕ) → after_forms functions gathered.forms first wanted.mode (text ++ more) ≡ Some (record far { rest = far.rest ++ more })
    pub rest : far.rest ≡ drop gathered.bytes text
    pub within : gathered.bytes ≤ length text
    pub left : now ≡ far.world
    pub lines : gathered.lines.items ≡ far.lines
    pub taken : records ≡ far.taken
    pub counted : gathered.records ≡ length records
    pub accepted : wanted.strict ≡ true → far.refused ≡ []
    pub record_bytes : gathered.record_bytes ≡ batch_size gathered.limit.version far.taken
    pub again : after functions first far.taken ≡ Some far.world
    pub fit : AllByRecursion IsLogRecord far.taken

  -- ---- the store

  module _ {D R : Type 0} (state : D → State) (old new : StoreView D R) (world : WorldState) (text : List ℕ) where
    -- the forms of a group were logged together, and the store has the world that they left
    abbrev pub TakesForms : GatheredForms → Type 0
    TakesForms gathered = IsTurnLogged functions state old new world (λ left records. AreFormsGathered world text left records gathered)

    -- the device failed as the forms of a group were logged
    abbrev pub FailsForms : Type 0
    FailsForms = HasFailedInTurn functions state old new world (λ left records. (gathered : GatheredForms) × (0 < gathered.forms) × AreFormsGathered world text left records gathered)

    -- the forms of a group were taken, or none was, or the device failed
    abbrev pub TakesGroup : Result (Option GatheredForms) Unlogged → Type 0
    TakesGroup (Ok (Some gathered)) = TakesForms gathered
    TakesGroup (Ok None) = new ≡ old
    TakesGroup (Err Full) = new ≡ old
    TakesGroup (Err DeviceFault) = FailsForms
    TakesGroup (Err OutOfMemory) = new ≡ old

  -- The forms of a group were answered, and so many bytes of what follows the first are passed with the others, so that none
  -- of those is pending; or the session has ended in them, whatever follows the text; or they were left, and nothing has
  -- changed.
  abbrev pub AnswersGroup : {D R : Type 0} (state : D → State) (course later : Course) (old new : StoreView D R) (world : WorldState) (text rest : List ℕ) (held written : Option (List ℕ)) → Grouped → Type 0
  AnswersGroup state course later old new world text rest held written (grouped.Answered count) =
      (pending : Pending) → ((in_world : WorldState) → IsPending functions in_world wanted.mode pending [])
      → SessionGoesOn functions state wanted.strict course later old new world wanted.mode text held written pending (drop count rest)
  AnswersGroup state course later old new world text rest held written (grouped.Ended ended) =
      (more : List ℕ) → HasEndedAt functions state wanted course old new world wanted.mode (text ++ more) held written ended
  AnswersGroup state course later old new world text rest held written grouped.Left = (new ≡ old) × (written ≡ held) × (later ≡ course)

-- What was made of whole forms: those that were gathered, of each text that the turn may be over; or none, and nothing was added.
pub record AreWholeFormsTaken (functions : Functions) (turn : WholeForms) (world left : WorldState) (records : List LogRecord) (made : Option GatheredForms) : Type 0 where
  pub gathers : (text : List ℕ) → BeginsWhole functions world turn.wanted.mode text (object_of turn.first.now.read.datum) turn.first.now.own.items turn.first.now.next
      → drop turn.first.now.next text ≡ turn.rest.now → IfSome made (AreFormsGathered functions turn.wanted world text left records)
  pub counts : IfSome made (AreWithinLimit turn.first.now.next (length turn.rest.now) turn.limit)
  pub none : made ≡ None → (left ≡ world) × (records ≡ [])
