-- What became of a form that was read, and of those that stand whole after it in a piece.
use Rattle.std.proofs.Common.{◌≡◌, ℕ, Bool, true, List, length, drop, Option, None, Some, Result, Ok, Err, IfOk, IfErr, refl, sym, ap, subst, ◌∙◌, arith}
use Rattle.std.specs.List.{AllByRecursion}
use Rattle.disk_trait.specs.Disk.{State}
use Rattle.gate_log.specs.Layout.{IsLogRecord, LogRecord}
use Rattle.lisp_object.specs.Datum.{object_of}
use Rattle.plist_state.specs.State.{WorldState}
use Rattle.prevalence_store.specs.declared.failure.Unlogged.{Unlogged}
use Rattle.prevalence_store.specs.declared.failure.Unlogged.TheVariants.{DeviceFault, Full, OutOfMemory}
use Rattle.sessions.specs.declared.gather.GatheredForms.{GatheredForms}
use Rattle.sessions.specs.declared.whole_forms.WholeForms.{WholeForms}
use Rattle.session_words.specs.declared.wanted.SessionOptions.{SessionOptions}
use Rattle.prevalence_store.specs.meaning.Acceptance.{after, accepted_record}
use Rattle.prevalence_store.specs.calls.Store.{StoreView}
use Rattle.prevalence_store.specs.steps.Batch.{FailsBatch, StoresBatch}
use Rattle.sessions.specs.steps.Gather.{AreWholeFormsTaken, BeginsWhole, FailsForms, AreFormsGathered, MayBeTaken, TakesForms, TakesGroup}
use Rattle.prevalence_store.specs.steps.Together.{IsTurnLogged, IsTurnNotLogged}
use Rattle.user_macros.specs.Functions.{Functions}

-- ---- a form that was read, and those that stand whole after it

module _ (functions : Functions) (turn : WholeForms) (w : WorldState) where
  -- their records make the world that they left, and fit the log
  pub forms_again : (v : WorldState) (records : List LogRecord) (made : Option GatheredForms) → MayBeTaken functions turn w → AreWholeFormsTaken functions turn w v records made
      → (after functions w records ≡ Some v) × AllByRecursion IsLogRecord records
  forms_again v records None may taken =
      let none = taken.none refl in
      (ap (after functions w) none.1 ∙ ap (λ s. Some s) (sym none.0), subst (λ (es : List LogRecord). AllByRecursion IsLogRecord es) (sym none.1) tt)
  forms_again v records (Some gathered) may taken =
      let is : AreFormsGathered functions turn.wanted w may.text v records gathered = taken.gathers may.text may.begins may.goes_on in
      (ap (after functions w) is.taken ∙ is.again ∙ ap (λ s. Some s) (sym is.left), subst (λ (es : List LogRecord). AllByRecursion IsLogRecord es) (sym is.taken) is.fit)

  module _ {D R : Type 0} (state : D → State) (old new : StoreView D R) (text : List ℕ)
      (begins : BeginsWhole functions w turn.wanted.mode text (object_of turn.first.now.read.datum) turn.first.now.own.items turn.first.now.next) (goes_on : drop turn.first.now.next text ≡ turn.rest.now) where
    forms_logged : (made : Option GatheredForms) → IsTurnLogged functions state old new w (λ left records. AreWholeFormsTaken functions turn w left records made) → TakesGroup functions turn.wanted state old new w text (Ok made)
    forms_logged None logged = logged.stores.logs.nothing (ap length (logged.makes.none refl).1)
    forms_logged (Some gathered) logged = record { left = logged.left; records = logged.records; makes = logged.makes.gathers text begins goes_on; stores = logged.stores }

    forms_failed : (left : WorldState) (records : List LogRecord) (made : Option GatheredForms) → AreWholeFormsTaken functions turn w left records made → FailsBatch functions state old new w left records
        → FailsForms functions turn.wanted state old new w text
    forms_failed left records None taken fails = absurd (omega (arith, fails.some, ap length (taken.none refl).1))
    forms_failed left records (Some gathered) taken fails = record { left = left; records = records; makes = (gathered, taken.counts.some, taken.gathers text begins goes_on); fails = fails }

    forms_unlogged : (cause : Unlogged) → IsTurnNotLogged functions state old new w (λ left records. (made : Option GatheredForms) × AreWholeFormsTaken functions turn w left records made) cause
        → TakesGroup functions turn.wanted state old new w text (Err cause)
    forms_unlogged OutOfMemory unmade = unmade.unchanged refl
    forms_unlogged Full unmade = unmade.unchanged refl
    forms_unlogged DeviceFault unmade =
        let stopped = unmade.stopped refl in
        forms_failed stopped.left stopped.records stopped.makes.0 stopped.makes.1 stopped.fails

    pub forms_taken : (result : Result (Option GatheredForms) Unlogged) → IfOk result (λ made. IsTurnLogged functions state old new w (λ left records. AreWholeFormsTaken functions turn w left records made))
        → IfErr result (IsTurnNotLogged functions state old new w (λ left records. (made : Option GatheredForms) × AreWholeFormsTaken functions turn w left records made)) → TakesGroup functions turn.wanted state old new w text result
    forms_taken (Ok made) logged unmade = forms_logged made logged
    forms_taken (Err cause) logged unmade = forms_unlogged cause unmade

-- ---- forms that were gathered as in a strict session

module _ (functions : Functions) (wanted : SessionOptions) (strict : Bool) (stricter : wanted.strict ≡ true → strict ≡ true) where
  lax_gathered : (first : WorldState) (text : List ℕ) (now : WorldState) (records : List LogRecord) (gathered : GatheredForms)
      → AreFormsGathered functions (record wanted { strict = strict }) first text now records gathered → AreFormsGathered functions wanted first text now records gathered
  lax_gathered first text now records gathered is = record {
    far = is.far;
    stays = is.stays;
    rest = is.rest;
    within = is.within;
    left = is.left;
    lines = is.lines;
    taken = is.taken;
    counted = is.counted;
    accepted = λ asked. is.accepted (stricter asked);
    record_bytes = is.record_bytes;
    again = is.again;
    fit = is.fit;
  }

  -- they are forms of the session too
  pub lax_taken : {D R : Type 0} (state : D → State) (old new : StoreView D R) (w : WorldState) (text : List ℕ) (result : Result (Option GatheredForms) Unlogged)
      → TakesGroup functions (record wanted { strict = strict }) state old new w text result → TakesGroup functions wanted state old new w text result
  lax_taken state old new w text (Ok (Some gathered)) took =
      record { left = took.left; records = took.records; makes = lax_gathered w text took.left took.records gathered took.makes; stores = took.stores }
  lax_taken state old new w text (Ok None) took = took
  lax_taken state old new w text (Err Full) took = took
  lax_taken state old new w text (Err DeviceFault) took = record {
    left = took.left;
    records = took.records;
    makes = (took.makes.0, took.makes.1, lax_gathered w text took.left took.records took.makes.0 took.makes.2);
    fails = took.fails;
  }
  lax_taken state old new w text (Err OutOfMemory) took = took

-- ---- what was logged of a group, or met the fault

module _ (functions : Functions) (wanted : SessionOptions) {D R : Type 0} (state : D → State) (old new : StoreView D R) (w : WorldState) (text : List ℕ) where
  -- unless the device failed nothing was done
  pub group_left : (cause : Unlogged) → (cause ≡ DeviceFault → ⊥) → TakesGroup functions wanted state old new w text (Err cause) → new ≡ old
  group_left OutOfMemory other took = took
  group_left Full other took = took
  group_left DeviceFault other took = absurd (other refl)

  pub far_stored : (gathered : GatheredForms) (took : TakesForms functions wanted state old new w text gathered) → StoresBatch functions state old new w took.makes.far.world took.makes.far.taken
  far_stored gathered took =
      let is = took.makes in
      subst (λ (v : WorldState). StoresBatch functions state old new w v is.far.taken) is.left (subst (λ (es : List LogRecord). StoresBatch functions state old new w took.left es) is.taken took.stores)

  pub far_failed : (fault : FailsForms functions wanted state old new w text) → FailsBatch functions state old new w fault.left fault.makes.2.far.taken
  far_failed fault = subst (λ (es : List LogRecord). FailsBatch functions state old new w fault.left es) fault.makes.2.taken fault.fails
