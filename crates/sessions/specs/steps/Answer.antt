-- What the answer to a form, and to a refusal of the reader, is to a session.
use Rattle.std.specs.Prelude.{◌≡◌, ◌≢◌, ◌⊎◌, ℕ, ◌+◌, ◌≤◌, Bool, true, false, List, [], ◌∷◌, ◌++◌, length, Option, None, Some, IsSome, Ok, Err, Result}
use Rattle.disk_trait.specs.Disk.{State}
use Rattle.gate_log.specs.Layout.{LogRecord, size_of_record}
use Rattle.lisp_object.specs.Object.{Object, IsSound}
use Rattle.lisp_object.specs.Datum.{object_of, is_proper}
use Rattle.form_eval.specs.declared.read_form.ReadForm.{ReadForm}
use Rattle.package_table.specs.Symbols.{are_there}
use Rattle.lisp_operators.specs.EvaluationAnswers.{IsArgument, done}
use Rattle.lisp_operators.specs.declared.evaluated.Evaluated.{Evaluated}
use Rattle.form_eval.specs.Acceptance.{accept}
use Rattle.form_eval.specs.Laws.{MayEvaluate}
use Rattle.lisp_object.specs.declared.refusal.TheConstants.{DEVICE, LOG_FULL, INPUT, OUTPUT, NO_MEMORY}
use Rattle.lisp_reading.specs.Reading.{form}
use Rattle.prevalence_store.specs.declared.batch.Batch.{Batch}
use Rattle.sessions.specs.steps.Forms.{Failure, TakesForm, of_unlogged}
use Rattle.sessions.specs.steps.Forms as failure
use Rattle.prevalence_store.specs.declared.failure.Unlogged.{Unlogged}
use Rattle.sessions.specs.declared.answer.Answered.{Answered}
use Rattle.sessions.specs.declared.answer.Reply.{Reply}
use Rattle.sessions.specs.declared.answer.Answered.TheVariants.{Accepted, Refused}
use Rattle.session_words.specs.declared.mode.Mode.{Mode}
use Rattle.sessions.specs.declared.ending.Ended.{Ended}
use Rattle.sessions.specs.declared.ending.Ended.TheVariants as ways
use Rattle.session_words.specs.declared.wanted.SessionOptions.{SessionOptions}
use Rattle.sessions.specs.declared.ending.Ending.{Ending}
use Rattle.sessions.specs.declared.ending.Ending.TheVariants.{End, Reader, Store}
use Rattle.prevalence_store.specs.meaning.Acceptance.{between, read_in, records_of, transaction_value}
use Rattle.sessions.specs.FormAnswers.{Progress, first_progress, refusal_line, value_line}
use Rattle.sessions.specs.Pace.{Fill, LogsWithRoom, Pace, PacesForms, fill_of, fill_with_record}
use Rattle.sessions.specs.Serve.{Advances, IsOver, IsFormUnaccepted, Serves, ServesInPace}
use Rattle.prevalence_store.specs.calls.Store.{StoreView}
use Rattle.sessions.specs.Streams.{Writes, WritesPart}
use Rattle.prevalence_store.specs.steps.Batch.{entries_in, IsEmpty}
use Rattle.sessions.specs.steps.Course.{Course}
use Rattle.sessions.specs.steps.Output.{IsAnswerLine}
use Rattle.plist_state.specs.State.{WorldState}
use Rattle.user_macros.specs.Functions.{Functions}

-- the text begins with this form, and this is its own text
pub record BeginsWithForm (functions : Functions) (world : WorldState) (mode : Mode) (text : List ℕ) (object : Object) (own : List ℕ) (next : ℕ) : Type 0 where
  pub start : ℕ
  pub stop : ℕ
  pub reads : read_in functions world mode text ≡ form object start stop next
  pub is_own : own ≡ between start stop text

-- In the world of a store, which is open, some text begins with this form, and this is its own text. Where the symbols of the form are
-- known to be there, they are.
pub record IsFormOf (functions : Functions) (left : Option WorldState) (mode : Mode) (read : ReadForm) (own : List ℕ) : Type 0 where
  pub is_open : IsSome left
  pub begins : (world : WorldState) → left ≡ Some world → (text : List ℕ) × ((next : ℕ) × BeginsWithForm functions world mode text (object_of read.datum) own next)
  pub proper : is_proper read.datum ≡ true
  pub sound : IsSound (object_of read.datum)
  pub all_there : (world : WorldState) → left ≡ Some world → read.known ≡ true → are_there world.packages (object_of read.datum) ≡ true

-- a form that was taken left no record, and the half in use is as it was; or its record was logged so
abbrev pub LeavesRecord : (LogRecord → Type 0) → List LogRecord → (fill now : Fill) → (wrote : Bool) → Type 0
LeavesRecord Logged taken fill now wrote =
    ((wrote ≡ false) × (taken ≡ []) × (now ≡ fill)) ⊎ ((wrote ≡ true) × ((entry : LogRecord) × (taken ≡ entry ∷ []) × Logged entry))

-- the half had room for this record
abbrev pub LogsAtOnce : ℕ → (fill now : Fill) → LogRecord → Type 0
LogsAtOnce limit fill now entry = (fill.size + size_of_record fill.version (length entry.text) ≤ limit) × (now ≡ fill_with_record entry fill)

-- what became of a form that has a line: it was accepted, and logged or not, or refused with a number. Of one that failed
-- without a line nothing is meant.
abbrev pub answered_of : Result Evaluated Failure → Answered
answered_of (Ok evaluated) = Accepted evaluated.wrote
answered_of (Err (failure.Refused number)) = Refused number
answered_of (Err failure.Full) = Accepted false
answered_of (Err failure.DeviceFault) = Accepted false
answered_of (Err failure.OutOfMemory) = Accepted false

-- what its recipient hears of a form in this world of a store: if it was refused, that it is so there, and may be evaluated again
abbrev pub MayBeHeard : Functions → Option WorldState → Answered → ReadForm → Type 0
MayBeHeard functions left (Accepted logged) read = Unit {0}
MayBeHeard functions left (Refused number) read =
    (world : WorldState) → left ≡ Some world → MayEvaluate world.packages read × (accept functions.names world (object_of read.datum) ≡ Err number)

-- whether a record of the form was logged
abbrev pub was_logged : Answered → Bool
was_logged (Accepted logged) = logged
was_logged (Refused number) = false

-- the number of a refusal, if it ends the session, as it does in a strict one; else None
abbrev pub refusal_that_ends : (strict : Bool) → Answered → Option ℕ
refusal_that_ends strict (Accepted logged) = None
refusal_that_ends true (Refused number) = Some number
refusal_that_ends false (Refused number) = None

-- what a reply is to a form that was added to a batch in one world, and left the other, by what became of it
abbrev pub IsReplyTo : (names : List (List ℕ)) → Mode → Object → List ℕ → (before after : WorldState) → (old new : Batch) → Reply → Result Evaluated Failure → Type 0
IsReplyTo names mode object own before after old new reply (Ok e) =
    (transaction_value names before object ≡ Ok (done e after)) × IsArgument after.packages e.value
    × (entries_in new ≡ entries_in old ++ records_of e.wrote mode own)
    × (reply.line.items ≡ value_line after (object_of e.value)) × (reply.answered ≡ Accepted e.wrote)
IsReplyTo names mode object own before after old new reply (Err (failure.Refused number)) =
    (transaction_value names before object ≡ Err number) × (after ≡ before) × (new ≡ old)
    × (reply.line.items ≡ refusal_line number) × (reply.answered ≡ Refused number)
IsReplyTo names mode object own before after old new reply (Err failure.Full) = ⊥
IsReplyTo names mode object own before after old new reply (Err failure.DeviceFault) = ⊥
IsReplyTo names mode object own before after old new reply (Err failure.OutOfMemory) = ⊥

-- the reply to a form that was added to a batch of none, with the records of that batch
pub record IsReplyToForm (names : List (List ℕ)) (mode : Mode) (object : Object) (own : List ℕ) (before after : WorldState) (records : List LogRecord) (reply : Reply) : Type 0 where
  pub none : Batch
  pub batch : Batch
  pub begins : IsEmpty none
  pub added : entries_in batch ≡ records
  pub answer : Result Evaluated Failure
  pub replies : IsReplyTo names mode object own before after none batch reply answer

module _ (functions : Functions) {D R : Type 0} (state : D → State) (old new : StoreView D R) (mode : Mode) (own : List ℕ) (object : Object) where
  -- a form was taken, and this is the reply to it
  pub record TakesReply (reply : Reply) : Type 0 where
    pub answer : Result Evaluated Failure
    pub takes : TakesForm functions state old new mode own object answer
    pub line : IsAnswerLine new answer reply.line.items
    pub told : reply.answered ≡ answered_of answer

  -- a form was not taken, and there is no reply
  abbrev pub IsFormLeft : Unlogged → Type 0
  IsFormLeft cause = TakesForm functions state old new mode own object (Err (of_unlogged cause))

-- what is told of the form that a text begins with is so: it was accepted, or refused with this number
abbrev pub TellsForm : Functions → WorldState → Mode → List ℕ → Progress → Answered → Type 0
TellsForm functions world mode text far (Accepted logged) = far.refused ≡ []
TellsForm functions world mode text far (Refused number) = (far.refused ≡ number ∷ []) × ((start : ℕ) × IsFormUnaccepted functions world mode text number start)

module _ (functions : Functions) {D R : Type 0} (state : D → State) (old new : StoreView D R) (world : WorldState) (mode : Mode) where
  -- The session has ended in a form, with this number: if the output failed, in the line of that form.
  pub record StopsInForm (text : List ℕ) (held written : Option (List ℕ)) (number : ℕ) : Type 0 where
    pub serves : Serves functions state old new world mode text held written false (Store number)
    pub one : serves.forms ≤ 1
    pub no_input : number ≢ INPUT
    pub in_form : number ≡ OUTPUT → serves.forms ≡ serves.lines + 1
    -- what was answered whole was accepted
    pub accepted : serves.answered.refused ≡ []

  -- what is in the half in use of a form in which the session has ended: nothing, or its record if it left one
  abbrev pub EndsTry : (text : List ℕ) (held written : Option (List ℕ)) (number : ℕ) → StopsInForm text held written number → Type 0
  EndsTry text held written number stops =
      ((number ≡ NO_MEMORY) × (stops.serves.far ≡ first_progress world text) × (fill_of state new ≡ fill_of state old))
      ⊎ (((stops.serves.forms ≡ 1) × (number ≡ OUTPUT)
      × ((wrote : Bool) × LeavesRecord (LogsAtOnce old.limit (fill_of state old) (fill_of state new)) stops.serves.far.taken (fill_of state old) (fill_of state new) wrote))
      ⊎ ((number ≡ DEVICE) × (stops.serves.forms ≡ stops.serves.lines + 1) × (stops.serves.answered ≡ first_progress world text) × (fill_of state new ≡ fill_of state old)))

  -- The form that the text begins with was answered; or it has no room, and nothing was done; or the session has ended in it,
  -- with this number.
  abbrev pub TriesForm : List ℕ → Option (List ℕ) → Option (List ℕ) → Result Answered ℕ → Type 0
  TriesForm text held written (Ok answered) =
      (far : Progress) × Advances functions state old new world mode text held written 1 far
      × LeavesRecord (LogsAtOnce old.limit (fill_of state old) (fill_of state new)) far.taken (fill_of state old) (fill_of state new) (was_logged answered)
      × TellsForm functions world mode text far answered
  TriesForm text held written (Err number) =
      (number ≡ LOG_FULL → IsOver functions state old world mode text)
      × (number ≢ LOG_FULL → (stops : StopsInForm text held written number) × EndsTry text held written number stops)

  -- The form that the text begins with was answered, if it had no room after a snapshot; or the session has ended in it, with
  -- this number. What follows it is not there yet.
  abbrev pub FitsForm : List ℕ → Option (List ℕ) → Option (List ℕ) → Result Answered ℕ → Type 0
  FitsForm text held written (Ok answered) =
      (far : Progress) × Advances functions state old new world mode text held written 1 far
      × LeavesRecord (λ entry. LogsWithRoom old.limit world entry (fill_of state old) (fill_of state new)) far.taken (fill_of state old) (fill_of state new) (was_logged answered)
      × TellsForm functions world mode text far answered
  FitsForm text held written (Err number) =
      (stops : StopsInForm text held written number)
      × ((pace : Pace) → ServesInPace functions state pace old new world mode text held written (Store number) stops.serves)

  -- The form that the text begins with was answered, and what follows it is there; or the session has ended in it, with this
  -- number.
  abbrev pub AnswersForm : (pace later : Pace) → List ℕ → Option (List ℕ) → Option (List ℕ) → Result Answered ℕ → Type 0
  AnswersForm pace later text held written (Ok answered) =
      (far : Progress) × Advances functions state old new world mode text held written 1 far
      × PacesForms functions old.limit world far.taken pace later (fill_of state old) (fill_of state new)
      × TellsForm functions world mode text far answered
  AnswersForm pace later text held written (Err number) =
      (stops : StopsInForm text held written number) × ServesInPace functions state pace old new world mode text held written (Store number) stops.serves

-- Of a form that was read: it was answered, and takes so many bytes; or the session has ended in it, at once or, if it is strict, as
-- it was refused.
module _ (functions : Functions) {D R : Type 0} (state : D → State) (course later : Course) (old new : StoreView D R) (world : WorldState) (wanted : SessionOptions) (text : List ℕ) (held written : Option (List ℕ)) (start next : ℕ) where
  -- one form was answered, counted, and followed by a snapshot if one was due; and these refusals are its
  pub record PassesForm (refusals : List ℕ) : Type 0 where
    pub far : Progress
    pub advances : Advances functions state old new world wanted.mode text held written 1 far
    pub paced : PacesForms functions old.limit world far.taken course.pace later.pace (fill_of state old) (fill_of state new)
    pub forms : later.forms ≡ course.forms + 1
    pub bytes : later.bytes ≡ course.bytes + next
    pub refused_are : far.refused ≡ refusals

  -- what the answer to a form that was read comes to: the session goes on, and in a strict one the form was accepted; or it has ended
  abbrev pub AnswersRead : Result Unit Ended → Type 0
  AnswersRead (Ok done) = (refusals : List ℕ) × PassesForm refusals × (wanted.strict ≡ true → refusals ≡ [])
  AnswersRead (Err ways.End) = ⊥
  AnswersRead (Err (ways.Unreadable number place)) = ⊥
  AnswersRead (Err (ways.Unaccepted number place)) =
      (wanted.strict ≡ true) × PassesForm (number ∷ []) × IsFormUnaccepted functions world wanted.mode text number start
      × (place.forms ≡ course.forms) × (place.start ≡ course.bytes + start) × (place.at ≡ course.bytes + start)
  AnswersRead (Err (ways.Store number)) =
      (stops : StopsInForm functions state old new world wanted.mode text held written number)
      × ServesInPace functions state course.pace old new world wanted.mode text held written (Store number) stops.serves

-- A reader refusal ends the session: its line was written, or the writer failed in it, or there was no memory for it.
abbrev pub AnswersFault : ℕ → Option (List ℕ) → Option (List ℕ) → Ending → Type 0
AnswersFault number held written End = ⊥
AnswersFault number held written (Reader told) = (told ≡ number) × Writes held written (refusal_line number)
AnswersFault number held written (Store fault) =
    ((fault ≡ OUTPUT) × WritesPart held written (refusal_line number)) ⊎ ((fault ≡ NO_MEMORY) × (written ≡ held))
