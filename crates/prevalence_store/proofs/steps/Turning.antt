-- What became of a turn: of a text that was to be one form, of many, of a form that was read, and of those that stand whole after it.
use Rattle.std.proofs.Common.{◌≡◌, ℕ, ◌+◌, ◌<◌, ◌≤◌, Bool, true, false, List, [], length, Some, Result, Ok, Err, refl, sym, ap, subst, ◌∙◌, inl, inr, arith, Bor, ◌∷◌}
use Rattle.std.specs.List.{All, AllByRecursion}
use Rattle.disk_trait.specs.Disk.{State, IsHonest, IsSoundDisk}
use Rattle.gate_log.specs.Layout.{IsLogRecord, LogRecord, batch_size}
use Rattle.lisp_object.specs.Datum.{object_of}
use Rattle.lisp_object.specs.Object.{Object}
use Rattle.plist_state.specs.State.{WorldState}
use Rattle.prevalence_store.specs.declared.failure.Unlogged.{Unlogged}
use Rattle.prevalence_store.specs.declared.failure.Unlogged.TheVariants.{DeviceFault, Full, OutOfMemory}
use Rattle.prevalence_store.specs.declared.outcome.Outcome.{Outcome}
use Rattle.prevalence_store.specs.declared.outcome.Outcome.TheVariants.{Accepted, Snapshotted, Refused}
use Rattle.session_words.specs.declared.mode.Mode.{Mode}
use Rattle.prevalence_store.specs.meaning.Acceptance.{Acceptance, accepts, after, accepted_record, records_of}
use Rattle.prevalence_store.specs.calls.Execute.{Executes, IsProperOutcome, IsValueIn, SurvivesAs}
use Rattle.prevalence_store.specs.calls.ExecuteAll.{FailsToLogTexts, AreTextsLoggedTogether, LogsAll, progress_of_texts}
use Rattle.prevalence_store.specs.calls.Store.{StoreView}
use Rattle.prevalence_store.specs.steps.Batch.{FailsBatch, StoresBatch, TakesBatch}
use Rattle.prevalence_store.specs.steps.Failure.{failure_number}
use Rattle.prevalence_store.specs.steps.Group.{AreTextsEvaluated, IsTurn}
use Rattle.prevalence_store.specs.steps.Together.{HasFailedInTurn, IsTurnLogged, IsTurnNotLogged}
use Rattle.prevalence_store.proofs.calls.Executing.{out_of_memory, turned_down}
use Rattle.prevalence_store.proofs.meaning.Numbered.{acceptance_is_numbered}
use Rattle.prevalence_store.proofs.steps.Grouping.{all_replayed, one_replayed}
use Rattle.prevalence_store.proofs.steps.Taking.{one_size, stored_one}
use Rattle.prevalence_store.proofs.Surviving.{unchanged_survives}
use Rattle.user_macros.specs.Functions.{Functions}

module _ (functions : Functions) {D R : Type 0} (state : D → State) (old new : StoreView D R) (world : WorldState) where
  -- by what logging its records did
  pub not_made : (left : WorldState) (records : List LogRecord) (Makes : WorldState → List LogRecord → Type 0) → Makes left records → (cause : Unlogged) {T : Type 0}
      → TakesBatch functions state old new world left records {T = T} (Err cause) → IsTurnNotLogged functions state old new world Makes cause
  not_made left records Makes makes cause took = record {
    unchanged = took.unchanged;
    full = λ is. let over = took.full is in record { left = left; records = records; makes = makes; some = over.0; over = over.1 };
    stopped = λ is. record { left = left; records = records; makes = makes; fails = took.stopped is };
  }

  -- no memory
  pub untouched : (Makes : WorldState → List LogRecord → Type 0) → new ≡ old → IsTurnNotLogged functions state old new world Makes OutOfMemory
  untouched Makes same = record { unchanged = λ _. same; full = λ is. absurd (cc); stopped = λ is. absurd (cc) }

-- ---- a text

module _ (functions : Functions) (mode : Mode) (w : WorldState) (text : List ℕ) where
  -- its record makes the world that the text left, and fits the log
  pub text_again : (v : WorldState) (records : List LogRecord) (outcome : Outcome) → IsTurn mode (accepts functions w mode text) w v [] records outcome → after functions w records ≡ Some v
  text_again v records outcome turn = ap (after functions w) turn.entries ∙ (one_replayed functions mode w text).again ∙ ap (λ s. Some s) (sym turn.left)

  pub text_fit : (v : WorldState) (records : List LogRecord) (outcome : Outcome) → IsTurn mode (accepts functions w mode text) w v [] records outcome → AllByRecursion IsLogRecord records
  text_fit v records outcome turn = subst (λ (es : List LogRecord). AllByRecursion IsLogRecord es) (sym turn.entries) (one_replayed functions mode w text).fit

  module _ {D R : Type 0} (state : D → State) (sound : (d : D) → IsHonest (state d) → IsSoundDisk (state d)) (old new : StoreView D R) where
    -- what was made of it
    abbrev MakesText : Outcome → WorldState → List LogRecord → Type 0
    MakesText outcome left records = IsTurn mode (accepts functions w mode text) w left [] records outcome × IsProperOutcome outcome × IsValueIn left outcome

    -- ---- it was logged

    as_accepted : (given : Acceptance) → accepts functions w mode text ≡ Ok given → (outcome : Outcome) (left : WorldState) (records : List LogRecord)
        → IsTurn mode (Ok given) w left [] records outcome → StoresBatch functions state old new w left records → Executes functions state old new w mode text outcome
    as_accepted given is (Accepted value) left records turn stores =
        let told : ◌≡◌ {A = Result Object ℕ} (Ok (object_of value)) (Ok given.value) = turn.told in
        let logs : LogsAll state old new (records_of given.wrote mode given.text) given.world =
        subst (λ (v : WorldState). LogsAll state old new (records_of given.wrote mode given.text) v) turn.left
        (subst (λ (es : List LogRecord). LogsAll state old new es left) turn.entries stores.logs) in
        record {
          given = given;
          accepted = is;
          answered = cc;
          stored = stored_one functions state sound old new mode given.text given.wrote given.world logs;
          calm = logs.failures;
          survives = subst (λ (es : List LogRecord). SurvivesAs functions state old new w es (length es)) turn.entries stores.survives;
        }
    as_accepted given is Snapshotted left records turn stores = let told : ◌≡◌ {A = Result Object ℕ} (Err 0) (Ok given.value) = turn.told in absurd (cc)
    as_accepted given is (Refused number) left records turn stores = let told : ◌≡◌ {A = Result Object ℕ} (Err number) (Ok given.value) = turn.told in absurd (cc)

    as_refused : (number : ℕ) → accepts functions w mode text ≡ Err number → (outcome : Outcome) (left : WorldState) (records : List LogRecord)
        → IsTurn mode (Err number) w left [] records outcome → StoresBatch functions state old new w left records → Executes functions state old new w mode text outcome
    as_refused number is (Accepted value) left records turn stores = let told : ◌≡◌ {A = Result Object ℕ} (Ok (object_of value)) (Err number) = turn.told in absurd (cc)
    as_refused number is Snapshotted left records turn stores =
        let told : ◌≡◌ {A = Result Object ℕ} (Err 0) (Err number) = turn.told in
        let none : 0 ≡ number = cc in
        absurd (omega (arith, none, (acceptance_is_numbered functions w mode text number is).from))
    as_refused number is (Refused code) left records turn stores =
        let told : ◌≡◌ {A = Result Object ℕ} (Err code) (Err number) = turn.told in
        let same : number ≡ code = cc in
        turned_down functions state old new w mode text code (is ∙ ap (λ n. Err n) same) (stores.logs.nothing (ap length turn.entries))
        (subst (λ (es : List LogRecord). SurvivesAs functions state old new w es (length es)) turn.entries stores.survives)

    by_given : (given : Result Acceptance ℕ) → accepts functions w mode text ≡ given → (outcome : Outcome) (left : WorldState) (records : List LogRecord)
        → IsTurn mode given w left [] records outcome → StoresBatch functions state old new w left records → Executes functions state old new w mode text outcome
    by_given (Ok given) is outcome left records turn stores = as_accepted given is outcome left records turn stores
    by_given (Err number) is outcome left records turn stores = as_refused number is outcome left records turn stores

    pub text_executed : (outcome : Outcome) → IsTurnLogged functions state old new w (λ left records. MakesText outcome left records) → Executes functions state old new w mode text outcome
    text_executed outcome made = by_given (accepts functions w mode text) refl outcome made.left made.records made.makes.0 made.stores

    -- ---- it was not

    -- the text writes that was to have a record
    wrote_some : (given : Acceptance) (wrote : Bool) → given.wrote ≡ wrote → 0 < length (records_of wrote mode given.text) → given.wrote ≡ true
    wrote_some given true is some = is
    wrote_some given false is some = absurd (omega (arith, some))

    had_no_room : (given : Result Acceptance ℕ) → accepts functions w mode text ≡ given → (outcome : Outcome) (left : WorldState) (records : List LogRecord)
        → IsTurn mode given w left [] records outcome → 0 < length records → old.limit < old.size + batch_size old.version records → new ≡ old
        → Executes functions state old new w mode text (Refused (failure_number Full))
    had_no_room (Ok given) is outcome left records turn some over same =
        let wrote = wrote_some given given.wrote refl (subst (λ (es : List LogRecord). 0 < length es) turn.entries some) in
        let one : records ≡ accepted_record mode given.text ∷ [] = turn.entries ∙ ap (λ b. records_of b mode given.text) wrote in
        inr (inl (record {
          full = refl;
          given = given;
          accepted = is;
          wrote = wrote;
          over = omega (arith, subst (λ (es : List LogRecord). old.limit < old.size + batch_size old.version es) one over, one_size old.version mode given.text);
          unchanged = same;
          survives = unchanged_survives functions state sound old new w same;
        }))
    had_no_room (Err number) is outcome left records turn some over same = absurd (omega (arith, some, ap length turn.entries))

    met_fault : (given : Result Acceptance ℕ) → accepts functions w mode text ≡ given → (outcome : Outcome) (left : WorldState) (records : List LogRecord)
        → IsTurn mode given w left [] records outcome → FailsBatch functions state old new w left records
        → Executes functions state old new w mode text (Refused (failure_number DeviceFault))
    met_fault (Ok given) is outcome left records turn fails =
        let wrote = wrote_some given given.wrote refl (subst (λ (es : List LogRecord). 0 < length es) turn.entries fails.some) in
        let one : records ≡ accepted_record mode given.text ∷ [] = turn.entries ∙ ap (λ b. records_of b mode given.text) wrote in
        inr (inr (inl (record {
          device = refl;
          given = given;
          accepted = is;
          wrote = wrote;
          fits = omega (arith, subst (λ (es : List LogRecord). old.size + batch_size old.version es ≤ old.limit) one fails.fits, one_size old.version mode given.text);
          failed = fails.failed;
          survives = subst (λ (es : List LogRecord). SurvivesAs functions state old new w es 0) one fails.survives;
        })))
    met_fault (Err number) is outcome left records turn fails = absurd (omega (arith, fails.some, ap length turn.entries))

    pub text_unlogged : (cause : Unlogged) → IsTurnNotLogged functions state old new w (λ left records. (outcome : Outcome) × MakesText outcome left records) cause
        → Executes functions state old new w mode text (Refused (failure_number cause))
    text_unlogged OutOfMemory unmade =
        let same = unmade.unchanged refl in out_of_memory functions state old new w mode text same (unchanged_survives functions state sound old new w same)
    text_unlogged Full unmade =
        let room = unmade.full refl in
        had_no_room (accepts functions w mode text) refl room.makes.0 room.left room.records room.makes.1.0 room.some room.over (unmade.unchanged refl)
    text_unlogged DeviceFault unmade =
        let stopped = unmade.stopped refl in met_fault (accepts functions w mode text) refl stopped.makes.0 stopped.left stopped.records stopped.makes.1.0 stopped.fails

-- ---- texts

module _ (functions : Functions) (mode : Mode) (w : WorldState) (texts : List (Bor (List ℕ))) where
  -- their records make the world that they left, and fit the log
  pub texts_again : (v : WorldState) (records : List LogRecord) (outcomes : List Outcome) → AreTextsEvaluated (progress_of_texts functions w mode texts) outcomes v records → after functions w records ≡ Some v
  texts_again v records outcomes turns = ap (after functions w) turns.entries ∙ (all_replayed functions mode w texts).again ∙ ap (λ s. Some s) (sym turns.left)

  pub texts_fit : (v : WorldState) (records : List LogRecord) (outcomes : List Outcome) → AreTextsEvaluated (progress_of_texts functions w mode texts) outcomes v records → AllByRecursion IsLogRecord records
  texts_fit v records outcomes turns = subst (λ (es : List LogRecord). AllByRecursion IsLogRecord es) (sym turns.entries) (all_replayed functions mode w texts).fit

  module _ {D R : Type 0} (state : D → State) (old new : StoreView D R) where
    -- what was made of them
    abbrev MakesTexts : List Outcome → WorldState → List LogRecord → Type 0
    MakesTexts outcomes left records = AreTextsEvaluated (progress_of_texts functions w mode texts) outcomes left records × All IsProperOutcome outcomes

    pub texts_executed : (outcomes : List Outcome) → IsTurnLogged functions state old new w (λ left records. MakesTexts outcomes left records) → AreTextsLoggedTogether functions state old new w mode texts outcomes
    texts_executed outcomes made =
        let turns = made.makes.0 in
        let stores : StoresBatch functions state old new w (progress_of_texts functions w mode texts).left (progress_of_texts functions w mode texts).entries =
        subst (λ (v : WorldState). StoresBatch functions state old new w v (progress_of_texts functions w mode texts).entries) turns.left
        (subst (λ (es : List LogRecord). StoresBatch functions state old new w made.left es) turns.entries made.stores) in
        record { told = turns.told; logs = stores.logs; survives = stores.survives; all_or_none = stores.all_or_none }

    pub texts_failed : {V : Type 0} (items : V → List Outcome) → HasFailedInTurn functions state old new w (λ left records. (made : V) × MakesTexts (items made) left records) → FailsToLogTexts functions state old new w mode texts
    texts_failed items stopped =
        let turns = stopped.makes.1.0 in
        let fails : FailsBatch functions state old new w stopped.left (progress_of_texts functions w mode texts).entries =
        subst (λ (es : List LogRecord). FailsBatch functions state old new w stopped.left es) turns.entries stopped.fails in
        record { some = fails.some; fits = fails.fits; failed = fails.failed; survives = fails.survives; all_or_none = fails.all_or_none }
