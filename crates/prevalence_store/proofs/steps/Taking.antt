-- What logging a form did to the store.
use Rattle.std.proofs.Common.{◌≡◌, ℕ, ◌+◌, Bool, true, false, List, [], ◌∷◌, ◌++◌, length, Some, Result, Ok, Err, OnOk, refl, ap, ◌∙◌, arith}
use Rattle.std.specs.List.{AllByRecursion}
use Rattle.std.proofs.lemmas.List.{length-map, map-append}
use Rattle.disk_trait.specs.Disk.{State, IsHonest, IsSoundDisk}
use Rattle.gate_log.specs.Layout.{IsLogRecord, batch_size, size_of_record}
use Rattle.lisp_object.specs.Object.{Object}
use Rattle.lisp_operators.specs.EvaluationAnswers.{done}
use Rattle.lisp_operators.specs.declared.evaluated.Evaluated.{Evaluated}
use Rattle.lisp_reading.specs.Reading.{form}
use Rattle.plist_state.specs.State.{WorldState}
use Rattle.prevalence_store.specs.declared.batch.Batch.{Batch}
use Rattle.prevalence_store.specs.declared.batch.BatchRecord.{BatchRecord}
use Rattle.session_words.specs.declared.mode.Mode.{Mode}
use Rattle.prevalence_store.specs.meaning.Acceptance.{after, accepted_record, read_in, records_of, transaction_value}
use Rattle.prevalence_store.specs.calls.Execute.{Stores}
use Rattle.prevalence_store.specs.calls.ExecuteAll.{LogsAll}
use Rattle.prevalence_store.specs.calls.Store.{StoreView}
use Rattle.prevalence_store.specs.steps.Batch.{IsEmpty, entries_in, entries_of, entry_of}
use Rattle.prevalence_store.proofs.steps.Grouping.{of_value}
use Rattle.user_macros.specs.Functions.{Functions}

-- the bytes of the record of a form
pub one_size : (version : ℕ) (mode : Mode) (text : List ℕ) → batch_size version (accepted_record mode text ∷ []) ≡ size_of_record version (length text)
one_size version mode text = omega arith

-- as many records as forms that wrote
pub count_entries : (batch : Batch) → length (entries_in batch) ≡ length batch.records.items
count_entries batch = length-map batch.records.items entry_of

-- a form more
pub entries_push : (forms : List BatchRecord) (last : BatchRecord) (mode : Mode) (own : List ℕ) → last.mode ≡ mode → last.text.items ≡ own → entries_of (forms ++ last ∷ []) ≡ entries_of forms ++ accepted_record mode own ∷ []
entries_push forms last mode own mode_is is = map-append entry_of forms (last ∷ []) ∙ (λ i. entries_of forms ++ accepted_record (mode_is i) (is i) ∷ [])

-- a batch of none has no records
pub none_in : (batch : Batch) → IsEmpty batch → entries_in batch ≡ []
none_in batch none = ap entries_of none

-- what follows of a result
pub ok_on : {T E : Type 0} (result : Result T E) {P Q : Type 0} → (P → Q) → OnOk result P → OnOk result Q
ok_on (Ok value) f is = f is
ok_on (Err error) f is = tt

module _ (functions : Functions) where
  -- the record of a form makes the world that the form left, and fits the log
  pub one_record : (mode : Mode) (w v : WorldState) (text : List ℕ) (x : Object) (e : Evaluated) → read_in functions w mode text ≡ form x 0 (length text) (length text)
      → transaction_value functions.names w x ≡ Ok (done e v) → (after functions w (records_of e.wrote mode text) ≡ Some v) × AllByRecursion IsLogRecord (records_of e.wrote mode text)
  one_record mode w v text x e whole valued = let is = of_value functions mode w text x (Ok (done e v)) valued whole in (is.again, is.fit)

  module _ {D R : Type 0} (state : D → State) (sound : (d : D) → IsHonest (state d) → IsSoundDisk (state d)) (old new : StoreView D R) where
    -- ---- one form

    module _ (mode : Mode) (text : List ℕ) where
      pub stored_one : (wrote : Bool) (v : WorldState) → LogsAll state old new (records_of wrote mode text) v → Stores state old new wrote mode text v
      stored_one true v all = record {
        left = all.left;
        half = all.half;
        version = all.version;
        generation = all.generation;
        record_count = all.record_count;
        size = all.size ∙ ap (λ n. old.size + n) (one_size old.version mode text);
        first_size = all.first_size;
        fits = all.fits (omega arith);
        limit = all.limit;
        macros = all.macros;
        described = all.described;
        other = all.other;
        failures = all.failures;
        mixes = all.mixes;
      }
      stored_one false v all = (all.nothing refl, all.left)
