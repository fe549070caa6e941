-- From a snapshot that was taken, or refused, to what the command promises.
use Rattle.std.proofs.Common.{◌≡◌, ℕ, true, List, [], Option, Some, refl, sym, ap, subst, ◌∙◌, inl, inr, append-nil, arith}
use Rattle.disk_trait.specs.Disk.{State}
use Rattle.disk_trait.specs.declared.half.Half.TheVariants.{A}
use Rattle.lisp_object.specs.declared.refusal.TheConstants.{DEVICE, SNAPSHOT_TOO_LARGE, NO_MEMORY}
use Rattle.plist_state.specs.State.{WorldState}
use Rattle.prevalence_store.specs.calls.Snapshot.{Snapshots}
use Rattle.prevalence_store.specs.calls.Store.{StoreView}
use Rattle.prevalence_store.specs.declared.outcome.Outcome.{Outcome}
use Rattle.prevalence_store.specs.declared.outcome.Outcome.TheVariants.{Accepted, Snapshotted, Refused}
use Rattle.user_macros.specs.Functions.{Functions}
use Rattle.store_commands.specs.Commands.{TaskBreaksOff, is_opening_fault}
use Rattle.store_commands.specs.Report.{HasNoValue, TellsHalf, TellsSnapshot, half_line, half_line_of}
use Rattle.store_commands.specs.Status.{HasFaultNumber, IsFaultNumber, TakesWords}
use Rattle.store_commands.specs.StatusAfterText.{TellsText}
use Rattle.store_commands.specs.declared.status.Status.{Status}
use Rattle.store_commands.specs.declared.status.Status.TheVariants.{Done, Helped, FormRefused, Unanswered, WordsRefused, LeftOut, Fault}
use Rattle.command_words.specs.declared.words.Task.TheVariants.{Snapshot}
use Rattle.store_commands.proofs.Reports.{text_fault, text_front, text_of_no_opening, text_taken}
use Rattle.store_commands.proofs.Statuses.{other_number}

module _ (functions : Functions) {D R : Type 0} (state : D → State) (old new : StoreView D R) (world : WorldState) where
  pub no_value : (outcome : Outcome) → Snapshots functions state old new world outcome → HasNoValue outcome
  no_value (Accepted value) none = none
  no_value Snapshotted done = tt
  no_value (Refused number) why = tt

  -- the numbers of a snapshot that is refused
  number_of : (number : ℕ) → Snapshots functions state old new world (Refused number) → IsFaultNumber number
  number_of number (inl large) = subst IsFaultNumber (sym large.large) (inr (inl (omega arith, omega arith)))
  number_of number (inr (inl fault)) = inl fault.device
  number_of number (inr (inr memory)) = inr (inr memory.memory)

  none_of_opening : (number : ℕ) → Snapshots functions state old new world (Refused number) → is_opening_fault number ≡ true → ⊥
  none_of_opening number (inl large) of = other_number number SNAPSHOT_TOO_LARGE large.large refl of
  none_of_opening number (inr (inl fault)) of = other_number number DEVICE fault.device refl of
  none_of_opening number (inr (inr memory)) of = other_number number NO_MEMORY memory.memory refl of

  pub refused_fault : (given : ℕ) (status : Status) → Snapshots functions state old new world (Refused given) → status ≡ Fault given → HasFaultNumber status
  refused_fault given status why is =
      subst HasFaultNumber (sym is) (λ number fault. let same : given ≡ number = cc in subst IsFaultNumber same (number_of given why))

  pub refused_opening : (given number : ℕ) → Snapshots functions state old new world (Refused given) → Fault given ≡ Fault number → is_opening_fault number ≡ true → ⊥
  refused_opening given number why both of =
      let same : given ≡ number = cc in
      none_of_opening given why (ap is_opening_fault same ∙ of)

  module _ (held written : Option (List ℕ)) where
    pub snapshot_taken : (outcome : Outcome) (status : Status) → TellsSnapshot outcome new status held written → TakesWords status
    snapshot_taken (Accepted value) status none = absurd none
    snapshot_taken Snapshotted status told = text_taken held written (half_line_of new) status told
    snapshot_taken (Refused number) status told = subst TakesWords (sym told.0) tt

    pub snapshot_fault : (outcome : Outcome) (status : Status) → Snapshots functions state old new world outcome
        → TellsSnapshot outcome new status held written → HasFaultNumber status
    snapshot_fault (Accepted value) status none told = absurd none
    snapshot_fault Snapshotted status done told = text_fault held written (half_line_of new) status told
    snapshot_fault (Refused given) status why told = refused_fault given status why told.0

    pub snapshot_of_no_opening : (outcome : Outcome) (status : Status) (number : ℕ) → status ≡ Fault number
        → Snapshots functions state old new world outcome → TellsSnapshot outcome new status held written → is_opening_fault number ≡ true → ⊥
    snapshot_of_no_opening (Accepted value) status number is none told of = none
    snapshot_of_no_opening Snapshotted status number is done told of = text_of_no_opening held written (half_line_of new) status number is told of
    snapshot_of_no_opening (Refused given) status number is why told of = refused_opening given number why (sym told.0 ∙ is) of

    module _ (had : List ℕ) (holds : held ≡ Some had) where
      half_told : (status : Status) → TellsText status held written (half_line_of new) → TellsHalf status had written
      half_told Done told = (new.half, new.generation, new.record_count, told had holds)
      half_told (Fault number) told = tt
      half_told Helped told = tt
      half_told FormRefused told = absurd told
      half_told Unanswered told = absurd told
      half_told WordsRefused told = tt
      half_told LeftOut told = absurd told

      -- what it writes if it ends well, and if not
      pub snapshot_writes : (outcome : Outcome) (status : Status) → TellsSnapshot outcome new status held written → TellsHalf status had written
      snapshot_writes (Accepted value) status none = absurd none
      snapshot_writes Snapshotted status told = half_told status told
      snapshot_writes (Refused number) status told = subst (λ (s : Status). TellsHalf s had written) (sym told.0) tt

      pub snapshot_breaks : (outcome : Outcome) (status : Status) (number : ℕ) (input : List ℕ) → status ≡ Fault number
          → TellsSnapshot outcome new status held written → TaskBreaksOff functions Snapshot input had written
      snapshot_breaks (Accepted value) status number input is none = absurd none
      snapshot_breaks Snapshotted status number input is told =
          (new.half, new.generation, new.record_count, text_front held written (half_line_of new) status number had holds is told)
      snapshot_breaks (Refused given) status number input is told =
          (A, 0, 0, ([], half_line A 0 0, refl, told.1 ∙ holds ∙ ap (λ l. Some l) (sym (append-nil had))))
