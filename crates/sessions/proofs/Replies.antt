-- What became of a form that was read, by what logging its record did to the store.
use Rattle.std.proofs.Common.{◌≡◌, ℕ, ◌+◌, Bool, true, false, List, [], ◌++◌, length, Some, Result, Ok, Err, refl, sym, ap, subst, ◌∙◌, arith}
use Rattle.std.specs.List.{AllByRecursion}
use Rattle.disk_trait.specs.Disk.{State, IsHonest, IsSoundDisk}
use Rattle.gate_log.specs.Layout.{IsLogRecord, LogRecord, size_of_record}
use Rattle.lisp_object.specs.Object.{Object}
use Rattle.lisp_operators.specs.EvaluationAnswers.{done}
use Rattle.lisp_operators.specs.declared.evaluated.Evaluated.{Evaluated}
use Rattle.lisp_reading.specs.Reading.{form}
use Rattle.plist_state.specs.State.{WorldState}
use Rattle.prevalence_store.specs.declared.batch.Batch.{Batch}
use Rattle.sessions.specs.steps.Forms.{Failure, Refused, Full, DeviceFault, OutOfMemory, taken_in, TakesForm, IsCause, is_device, of_unlogged}
use Rattle.prevalence_store.specs.declared.failure.Unlogged.{Unlogged}
use Rattle.prevalence_store.specs.declared.failure.Unlogged.TheVariants as unlogged
use Rattle.session_words.specs.declared.mode.Mode.{Mode}
use Rattle.sessions.specs.declared.answer.Reply.{Reply}
use Rattle.prevalence_store.specs.meaning.Acceptance.{after, read_in, records_of, transaction_value}
use Rattle.prevalence_store.specs.calls.Execute.{SurvivesAs}
use Rattle.prevalence_store.specs.calls.Store.{StoreView}
use Rattle.sessions.specs.steps.Answer.{IsFormLeft, IsReplyTo, TakesReply, IsReplyToForm}
use Rattle.prevalence_store.specs.steps.Batch.{StoresBatch, TakesBatch, entries_in, IsEmpty}
use Rattle.prevalence_store.proofs.Surviving.{unchanged_survives}
use Rattle.user_macros.specs.Functions.{Functions}
use Rattle.prevalence_store.proofs.steps.Taking.{none_in, one_record, stored_one}
use Rattle.prevalence_store.specs.steps.Failure.{is_unlogged_by_device}
use Rattle.prevalence_store.specs.steps.Together.{IsTurnLogged, IsTurnNotLogged}

-- a form that was added to a batch of none
alone : (begun new : Batch) (taken : List LogRecord) → IsEmpty begun → entries_in new ≡ entries_in begun ++ taken → entries_in new ≡ taken
alone begun new taken none is = is ∙ ap (λ (records : List LogRecord). records ++ taken) (none_in begun none)

-- by the cause
device_same : (cause : Unlogged) → is_unlogged_by_device cause ≡ is_device (of_unlogged cause)
device_same unlogged.Full = refl
device_same unlogged.DeviceFault = refl
device_same unlogged.OutOfMemory = refl

module _ (functions : Functions) where
  -- what the log gets of a form, by what became of it
  abbrev pub entries_to : Mode → List ℕ → Result Evaluated Failure → List LogRecord
  entries_to mode own (Ok e) = records_of e.wrote mode own
  entries_to mode own (Err failure) = []

  -- it is in the batch, makes the world that the form left, and fits the log
  pub reply_made : (mode : Mode) (w v : WorldState) (own : List ℕ) (x : Object) (begun new : Batch) (reply : Reply) (answer : Result Evaluated Failure) → IsReplyTo functions.names mode x own w v begun new reply answer
      → IsEmpty begun → read_in functions w mode own ≡ form x 0 (length own) (length own)
      → (entries_in new ≡ entries_to mode own answer) × (after functions w (entries_to mode own answer) ≡ Some v) × AllByRecursion IsLogRecord (entries_to mode own answer)
  reply_made mode w v own x begun new reply (Ok e) is none whole =
      let made = one_record functions mode w v own x e whole is.0 in
      (alone begun new (records_of e.wrote mode own) none is.2, made.0, made.1)
  reply_made mode w v own x begun new reply (Err (Refused number)) is none whole =
      (ap (λ (b : Batch). entries_in b) is.2 ∙ none_in begun none, ap (λ s. Some s) (sym is.1), tt)
  reply_made mode w v own x begun new reply (Err Full) is none whole = absurd is
  reply_made mode w v own x begun new reply (Err DeviceFault) is none whole = absurd is
  reply_made mode w v own x begun new reply (Err OutOfMemory) is none whole = absurd is

  module _ {D R : Type 0} (state : D → State) (sound : (d : D) → IsHonest (state d) → IsSoundDisk (state d)) (old new : StoreView D R) where
    module _ (mode : Mode) (text : List ℕ) where
      module _ (x : Object) where
        -- of which nothing is left
        nothing_survives : (failure : Failure) → is_device failure ≡ false → new ≡ old → (u : WorldState) → SurvivesAs functions state old new u (taken_in mode text (Err failure)) 0
        nothing_survives (Refused number) is same u = unchanged_survives functions state sound old new u same
        nothing_survives Full is same u = unchanged_survives functions state sound old new u same
        nothing_survives OutOfMemory is same u = unchanged_survives functions state sound old new u same
        nothing_survives DeviceFault is same u = absurd (cc)

        pub takes_nothing : (failure : Failure) → is_device failure ≡ false → new ≡ old
            → ((u : WorldState) → old.world ≡ Some u → IsCause (transaction_value functions.names u x) (old.size + size_of_record old.version (length text)) old.limit failure) → TakesForm functions state old new mode text x (Err failure)
        takes_nothing failure calm same cause = record {
          accepted = λ u known. tt;
          cause = cause;
          unchanged = λ _. same;
          fault = λ device. absurd (cc);
          survives = nothing_survives failure calm same;
        }

        -- which was evaluated in the world of the store
        module _ (w v : WorldState) (known : old.world ≡ Some w) (e : Evaluated) (valued : transaction_value functions.names w x ≡ Ok (done e v)) where
          here : (u : WorldState) → old.world ≡ Some u → w ≡ u
          here u is = cc

          takes_value : StoresBatch functions state old new w v (records_of e.wrote mode text) → TakesForm functions state old new mode text x (Ok e)
          takes_value stores = record {
            accepted = λ u is. (v, ap (λ a. transaction_value functions.names a x) (sym (here u is)) ∙ valued, stored_one functions state sound old new mode text e.wrote v stores.logs);
            cause = λ u is. tt;
            unchanged = tt;
            fault = tt;
            survives = λ u is. subst (λ a. SurvivesAs functions state old new a (records_of e.wrote mode text) (length (records_of e.wrote mode text))) (here u is) stores.survives is;
          }

          -- and whose record was not logged
          by_wrote : (wrote : Bool) → e.wrote ≡ wrote → (cause : Unlogged) {T : Type 0} → TakesBatch functions state old new w v (records_of wrote mode text) {T = T} (Err cause)
              → IsCause (transaction_value functions.names w x) (old.size + size_of_record old.version (length text)) old.limit (of_unlogged cause) × SurvivesAs functions state old new w (taken_in mode text (Err (of_unlogged cause))) 0
          by_wrote wrote is unlogged.OutOfMemory took = (tt, nothing_survives OutOfMemory refl (took.unchanged refl) w)
          by_wrote true is unlogged.Full took =
              let over = took.full refl in
              (((done e v, valued, is), omega (arith, over.1)), nothing_survives Full refl (took.unchanged refl) w)
          by_wrote false is unlogged.Full took = let over = took.full refl in absurd (omega (arith, over.0))
          by_wrote true is unlogged.DeviceFault took =
              let stopped = took.stopped refl in
              (((done e v, valued, is), omega (arith, stopped.fits)), stopped.survives)
          by_wrote false is unlogged.DeviceFault took = let stopped = took.stopped refl in absurd (omega (arith, stopped.some))

          takes_failure : (cause : Unlogged) {T : Type 0} → TakesBatch functions state old new w v (records_of e.wrote mode text) {T = T} (Err cause) → TakesForm functions state old new mode text x (Err (of_unlogged cause))
          takes_failure cause took =
              let told = by_wrote e.wrote refl cause took in record {
                accepted = λ u is. tt;
                cause = λ u is. subst (λ a. IsCause (transaction_value functions.names a x) (old.size + size_of_record old.version (length text)) old.limit (of_unlogged cause)) (here u is) told.0;
                unchanged = λ calm. took.unchanged (device_same cause ∙ calm);
                fault = λ device. (took.stopped (device_same cause ∙ device)).failed;
                survives = λ u is. subst (λ a. SurvivesAs functions state old new a (taken_in mode text (Err (of_unlogged cause))) 0) (here u is) told.1 is;
              }

        -- with the reply to it
        module _ (w v : WorldState) (known : old.world ≡ Some w) (begun batch : Batch) (reply : Reply) where
          pub reply_taken : (answer : Result Evaluated Failure) → IsReplyTo functions.names mode x text w v begun batch reply answer → StoresBatch functions state old new w v (entries_to mode text answer)
              → TakesReply functions state old new mode text x reply
          reply_taken (Ok e) is stores = record {
            answer = Ok e;
            takes = takes_value w v known e is.0 stores;
            line = record { world = v; one = λ u left. let both : Some v ≡ Some u = sym stores.logs.left ∙ left in cc; line_of = is.3 };
            told = is.4;
          }
          reply_taken (Err (Refused number)) is stores =
              let same = stores.logs.nothing refl in
              record {
                answer = Err (Refused number);
                takes = takes_nothing (Refused number) refl same (λ u left. let both : Some w ≡ Some u = sym known ∙ left in let one : w ≡ u = cc in subst (λ a. transaction_value functions.names a x ≡ Err number) one is.0);
                line = record { world = w; one = λ u left. let both : Some w ≡ Some u = sym known ∙ sym (ap (λ (s : StoreView D R). s.world) same) ∙ left in cc; line_of = is.3 };
                told = is.4;
              }
          reply_taken (Err Full) is stores = absurd is
          reply_taken (Err DeviceFault) is stores = absurd is
          reply_taken (Err OutOfMemory) is stores = absurd is

          none_left : (cause : Unlogged) {T : Type 0} → TakesBatch functions state old new w v [] {T = T} (Err cause) → IsFormLeft functions state old new mode text x cause
          none_left unlogged.OutOfMemory took = takes_nothing OutOfMemory refl (took.unchanged refl) (λ u is. tt)
          none_left unlogged.Full took = let over = took.full refl in absurd (omega (arith, over.0))
          none_left unlogged.DeviceFault took = let stopped = took.stopped refl in absurd (omega (arith, stopped.some))

          pub reply_left : (answer : Result Evaluated Failure) → IsReplyTo functions.names mode x text w v begun batch reply answer → (cause : Unlogged) {T : Type 0}
              → TakesBatch functions state old new w v (entries_to mode text answer) {T = T} (Err cause) → IsFormLeft functions state old new mode text x cause
          reply_left (Ok e) is cause took = takes_failure w v known e is.0 cause took
          reply_left (Err (Refused number)) is cause took = none_left cause took
          reply_left (Err Full) is cause took = absurd is
          reply_left (Err DeviceFault) is cause took = absurd is
          reply_left (Err OutOfMemory) is cause took = absurd is

-- ---- a form that was read

module _ (functions : Functions) (mode : Mode) (own : List ℕ) (x : Object) (w : WorldState) where
  -- its record makes the world that the form left, and fits the log
  pub reply_again : (v : WorldState) (records : List LogRecord) (reply : Reply) → read_in functions w mode own ≡ form x 0 (length own) (length own)
      → IsReplyToForm functions.names mode x own w v records reply → (after functions w records ≡ Some v) × AllByRecursion IsLogRecord records
  reply_again v records reply whole is =
      let made = reply_made functions mode w v own x is.none is.batch reply is.answer is.replies is.begins whole in
      let taken : records ≡ entries_to functions mode own is.answer = sym is.added ∙ made.0 in (
        ap (after functions w) taken ∙ made.1,
        subst (λ (es : List LogRecord). AllByRecursion IsLogRecord es) (sym taken) made.2,
      )

  module _ {D R : Type 0} (state : D → State) (sound : (d : D) → IsHonest (state d) → IsSoundDisk (state d)) (old new : StoreView D R) (known : old.world ≡ Some w)
      (whole : read_in functions w mode own ≡ form x 0 (length own) (length own)) where
    -- what the log was to get of it
    taken_of : (v : WorldState) (records : List LogRecord) (reply : Reply) (is : IsReplyToForm functions.names mode x own w v records reply) → records ≡ entries_to functions mode own is.answer
    taken_of v records reply is = sym is.added ∙ (reply_made functions mode w v own x is.none is.batch reply is.answer is.replies is.begins whole).0

    pub reply_logged : (reply : Reply) → IsTurnLogged functions state old new w (λ left records. IsReplyToForm functions.names mode x own w left records reply) → TakesReply functions state old new mode own x reply
    reply_logged reply made =
        let is = made.makes in
        reply_taken functions state sound old new mode own x w made.left known is.none is.batch reply is.answer is.replies
        (subst (λ (es : List LogRecord). StoresBatch functions state old new w made.left es) (taken_of made.left made.records reply is) made.stores)

    -- by what logging its record did
    as_left : (cause : Unlogged) (v : WorldState) (records : List LogRecord) (reply : Reply) (is : IsReplyToForm functions.names mode x own w v records reply)
        → TakesBatch functions state old new w v records {T = Unit} (Err cause) → IsFormLeft functions state old new mode own x cause
    as_left cause v records reply is took =
        reply_left functions state sound old new mode own x w v known is.none is.batch reply is.answer is.replies cause
        (subst (λ (es : List LogRecord). TakesBatch functions state old new w v es {T = Unit} (Err cause)) (taken_of v records reply is) took)

    pub reply_unlogged : (cause : Unlogged) → IsTurnNotLogged functions state old new w (λ left records. (reply : Reply) × IsReplyToForm functions.names mode x own w left records reply) cause
        → IsFormLeft functions state old new mode own x cause
    reply_unlogged unlogged.OutOfMemory unmade = takes_nothing functions state sound old new mode own x OutOfMemory refl (unmade.unchanged refl) (λ u is. tt)
    reply_unlogged unlogged.Full unmade =
        let room = unmade.full refl in
        as_left unlogged.Full room.left room.records room.makes.0 room.makes.1
        (record { stored = tt; unchanged = unmade.unchanged; full = λ _. (room.some, room.over); stopped = λ is. absurd (cc) })
    reply_unlogged unlogged.DeviceFault unmade =
        let stopped = unmade.stopped refl in
        as_left unlogged.DeviceFault stopped.left stopped.records stopped.makes.0 stopped.makes.1
        (record { stored = tt; unchanged = unmade.unchanged; full = λ is. absurd (cc); stopped = λ _. stopped.fails })
