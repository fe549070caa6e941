-- What a form does that was read, in the world of a store: it is accepted, and stored if it wrote, or it is not, with its cause.
use Rattle.std.specs.Prelude.{◌≡◌, ℕ, ◌+◌, ◌<◌, ◌≤◌, Bool, true, false, List, [], ◌∷◌, length, Option, Some, IsSome, Ok, Err, Result, IfErr, IfOk}
use Rattle.disk_trait.specs.Disk.{State}
use Rattle.disk_trait.specs.Half.{opposite_of}
use Rattle.gate_log.specs.Layout.{LogRecord, size_of_record}
use Rattle.lisp_object.specs.Object.{Object}
use Rattle.lisp_object.specs.Datum.{object_of}
use Rattle.form_eval.specs.Laws.{MayEvaluate}
use Rattle.form_eval.specs.declared.read_form.ReadForm.{ReadForm}
use Rattle.lisp_operators.specs.EvaluationAnswers.{done}
use Rattle.lisp_operators.specs.Evaluation.{Done, Evaluation}
use Rattle.lisp_operators.specs.declared.evaluated.Evaluated.{Evaluated}
use Rattle.lisp_reading.specs.Reading.{form}
use Rattle.plist_state.specs.State.{WorldState}
use Rattle.prevalence_store.specs.declared.failure.Unlogged.{Unlogged}
use Rattle.prevalence_store.specs.declared.failure.Unlogged.TheVariants as unlogged
use Rattle.session_words.specs.declared.mode.Mode.{Mode}
use Rattle.prevalence_store.specs.meaning.Acceptance.{accepted_record, read_in, records_of, transaction_value}
use Rattle.prevalence_store.specs.calls.Execute.{DeviceFails, Stores, SurvivesAs}
use Rattle.prevalence_store.specs.calls.Store.{StoreView}
use Rattle.user_macros.specs.Functions.{Functions}

-- ---- why it is not

-- evaluation refused it, with this number; its record would pass the limit of the half; the device failed; or there was no memory
pub data Failure : Type 0 where
  Refused : ℕ → Failure
  Full : Failure
  DeviceFault : Failure
  OutOfMemory : Failure

-- whether the device failed
abbrev pub is_device : Failure → Bool
is_device (Refused number) = false
is_device Full = false
is_device DeviceFault = true
is_device OutOfMemory = false

-- why a form was not accepted that was not logged
abbrev pub of_unlogged : Unlogged → Failure
of_unlogged unlogged.Full = Full
of_unlogged unlogged.DeviceFault = DeviceFault
of_unlogged unlogged.OutOfMemory = OutOfMemory

-- evaluation gave a value, and the form wrote
abbrev pub EvaluationHasWritten : Evaluation Object → Type 0
EvaluationHasWritten given = (done : Done Object) × (given ≡ Ok done) × (done.wrote ≡ true)

-- Each failure with its cause, of a form whose evaluation gave this, where the half would have this size with its record, and has this
-- limit: evaluation refused it; or the form wrote, and the record does not fit; or it does, and the device failed.
abbrev pub IsCause : Evaluation Object → (size limit : ℕ) → Failure → Type 0
IsCause given size limit (Refused number) = given ≡ Err number
IsCause given size limit Full = EvaluationHasWritten given × (limit < size)
IsCause given size limit DeviceFault = EvaluationHasWritten given × (size ≤ limit)
IsCause given size limit OutOfMemory = Unit {0}

-- ---- the record that it has, and whether that is acknowledged

-- of a form that was read: its one form, if it was accepted and wrote, and if it was under way as the device failed
abbrev pub taken_in : Mode → List ℕ → Result Evaluated Failure → List LogRecord
taken_in mode text (Ok evaluated) = records_of evaluated.wrote mode text
taken_in mode text (Err DeviceFault) = accepted_record mode text ∷ []
taken_in mode text (Err (Refused number)) = []
taken_in mode text (Err Full) = []
taken_in mode text (Err OutOfMemory) = []

-- how many records are acknowledged: that of an accepted form that wrote, and none of another
abbrev pub acknowledged_count : Mode → List ℕ → Result Evaluated Failure → ℕ
acknowledged_count mode text (Ok evaluated) = length (records_of evaluated.wrote mode text)
acknowledged_count mode text (Err failure) = 0

-- ---- what it does

-- In the world of a store, which is open, a text is read as this form, between these offsets, and nothing comes after it. The form may
-- be evaluated there.
pub record IsFormIn (functions : Functions) (left : Option WorldState) (mode : Mode) (read : ReadForm) (start stop : ℕ) (text : List ℕ) : Type 0 where
  pub is_open : IsSome left
  pub reads : (world : WorldState) → left ≡ Some world → read_in functions world mode text ≡ form (object_of read.datum) start stop (length text)
  pub may : (world : WorldState) → left ≡ Some world → MayEvaluate world.packages read

-- What a form does that was read, in the world of the store: it was accepted, and stored if it wrote; or it was not, with its cause.
pub record TakesForm (functions : Functions) {D R : Type 0} (state : D → State) (old new : StoreView D R) (mode : Mode) (text : List ℕ) (object : Object) (result : Result Evaluated Failure) : Type 0 where
  pub accepted : (world : WorldState) → old.world ≡ Some world → IfOk result (λ evaluated.
      (given : WorldState) × (transaction_value functions.names world object ≡ Ok (done evaluated given)) × Stores state old new evaluated.wrote mode text given)
  pub cause : (world : WorldState) → old.world ≡ Some world → IfErr result
      (IsCause (transaction_value functions.names world object) (old.size + size_of_record old.version (length text)) old.limit)
  pub unchanged : IfErr result (λ failure. is_device failure ≡ false → new ≡ old)
  pub fault : IfErr result (λ failure. is_device failure ≡ true → DeviceFails state old new (opposite_of old.half))
  pub survives : (world : WorldState) → SurvivesAs functions state old new world (taken_in mode text result) (acknowledged_count mode text result)
