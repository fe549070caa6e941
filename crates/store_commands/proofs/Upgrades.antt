-- From an upgrade, and from an export, to what the commands promise.
use Rattle.std.proofs.Common.{◌≡◌, ◌≢◌, ℕ, Bool, true, false, List, [], Option, Some, refl, sym, ap, subst, ◌∙◌, inl, inr, append-nil}
use Rattle.std.proofs.lemmas.Bool.{cases_eq, ne_eqb}
use Rattle.disk_trait.specs.Disk.{State}
use Rattle.gate_log.specs.Layout.{next_version}
use Rattle.plist_state.specs.State.{WorldState}
use Rattle.prevalence_store.specs.calls.Snapshot.{Snapshots}
use Rattle.prevalence_store.specs.calls.Store.{StoreView}
use Rattle.prevalence_store.specs.declared.outcome.Outcome.{Outcome}
use Rattle.prevalence_store.specs.declared.outcome.Outcome.TheVariants.{Accepted, Snapshotted, Refused}
use Rattle.user_macros.specs.Functions.{Functions}
use Rattle.session_words.specs.declared.content.Content.{Content}
use Rattle.world_forms.specs.Forms.{forms}
use Rattle.world_forms.specs.Properties.{left_out_lines}
use Rattle.lisp_object.specs.declared.refusal.TheConstants.{NO_MEMORY}
use Rattle.std.specs.Option.{IfSome}
use Rattle.store_commands.specs.Commands.{TaskBreaksOff, is_opening_fault}
use Rattle.store_commands.specs.Report.{HasNoValue, TellsForms, TellsUpgrade, TellsVersion, Upgrades, WritesForms, version_line}
use Rattle.store_commands.specs.Status.{HasFaultNumber, TakesWords}
use Rattle.store_commands.specs.StatusAfterText.{TellsText}
use Rattle.store_commands.specs.declared.status.Status.{Status}
use Rattle.store_commands.specs.declared.status.Status.TheVariants.{Done, Helped, FormRefused, Unanswered, WordsRefused, LeftOut, Fault}
use Rattle.command_words.specs.declared.words.Task.TheVariants.{Export, Upgrade}
use Rattle.store_commands.proofs.Reports.{text_fault, text_front, text_of_no_opening, text_taken}
use Rattle.store_commands.proofs.Snapshots.{no_value, refused_fault, refused_opening}

-- the version of the next half, in the order in which that is found
pub next_after_3 : (mixes : Bool) (version : ℕ) → version ≡ 3 → version ≡ next_version mixes version
next_after_3 true version is = is
next_after_3 false version is = rw is refl

pub next_on_mixing : (mixes : Bool) (version : ℕ) → mixes ≡ true → next_version mixes version ≡ 3
next_on_mixing mixes version is = rw is refl

pub next_else : (mixes : Bool) (version : ℕ) → mixes ≡ false → version ≢ 3 → next_version mixes version ≡ 2
next_else mixes version is other = rw (is, ne_eqb version 3 other) refl

module _ (functions : Functions) {D R : Type 0} (state : D → State) (old new : StoreView D R) (world : WorldState) where
  -- what became of a snapshot that was taken, or not
  either : (outcome : Outcome) (P : Type 0) → Upgrades functions state old new world outcome
      → (Snapshots functions state old new world outcome → P) → (outcome ≡ Snapshotted → P) → P
  either outcome P upgrades taken none = elim (cases_eq old.version (next_version (state old.disk).mixes old.version)) [
    | inl latest ↦ none (upgrades.latest latest).1
    | inr earlier ↦ taken (upgrades.earlier earlier)
  ]

  pub upgrade_has_no_value : (outcome : Outcome) → Upgrades functions state old new world outcome → HasNoValue outcome
  upgrade_has_no_value outcome upgrades =
      either outcome (HasNoValue outcome) upgrades (no_value functions state old new world outcome) (λ is. subst HasNoValue (sym is) tt)

  module _ (held written : Option (List ℕ)) where
    pub upgrade_taken : (outcome : Outcome) (status : Status) → TellsUpgrade outcome new status held written → TakesWords status
    upgrade_taken (Accepted value) status none = absurd none
    upgrade_taken Snapshotted status told = text_taken held written (version_line new.version) status told
    upgrade_taken (Refused number) status told = subst TakesWords (sym told.0) tt

    refused_is : (given : ℕ) → Upgrades functions state old new world (Refused given) → Snapshots functions state old new world (Refused given)
    refused_is given upgrades = either (Refused given) (Snapshots functions state old new world (Refused given)) upgrades (λ why. why) (λ is. absurd (cc))

    pub upgrade_fault : (outcome : Outcome) (status : Status) → Upgrades functions state old new world outcome
        → TellsUpgrade outcome new status held written → HasFaultNumber status
    upgrade_fault (Accepted value) status upgrades told = absurd told
    upgrade_fault Snapshotted status upgrades told = text_fault held written (version_line new.version) status told
    upgrade_fault (Refused given) status upgrades told = refused_fault functions state old new world given status (refused_is given upgrades) told.0

    pub upgrade_of_no_opening : (outcome : Outcome) (status : Status) (number : ℕ) → status ≡ Fault number
        → Upgrades functions state old new world outcome → TellsUpgrade outcome new status held written → is_opening_fault number ≡ true → ⊥
    upgrade_of_no_opening (Accepted value) status number is upgrades told of = told
    upgrade_of_no_opening Snapshotted status number is upgrades told of = text_of_no_opening held written (version_line new.version) status number is told of
    upgrade_of_no_opening (Refused given) status number is upgrades told of =
        refused_opening functions state old new world given number (refused_is given upgrades) (sym told.0 ∙ is) of

    module _ (had : List ℕ) (holds : held ≡ Some had) where
      version_told : (status : Status) → TellsText status held written (version_line new.version) → TellsVersion status had written
      version_told Done told = (new.version, told had holds)
      version_told (Fault number) told = tt
      version_told Helped told = tt
      version_told FormRefused told = absurd told
      version_told Unanswered told = absurd told
      version_told WordsRefused told = tt
      version_told LeftOut told = absurd told

      pub upgrade_writes : (outcome : Outcome) (status : Status) → TellsUpgrade outcome new status held written → TellsVersion status had written
      upgrade_writes (Accepted value) status none = absurd none
      upgrade_writes Snapshotted status told = version_told status told
      upgrade_writes (Refused number) status told = subst (λ (s : Status). TellsVersion s had written) (sym told.0) tt

      pub upgrade_breaks : (outcome : Outcome) (status : Status) (number : ℕ) (input : List ℕ) → status ≡ Fault number
          → TellsUpgrade outcome new status held written → TaskBreaksOff functions Upgrade input had written
      upgrade_breaks (Accepted value) status number input is none = absurd none
      upgrade_breaks Snapshotted status number input is told =
          (new.version, text_front held written (version_line new.version) status number had holds is told)
      upgrade_breaks (Refused given) status number input is told =
          (0, ([], version_line 0, refl, told.1 ∙ holds ∙ ap (λ l. Some l) (sym (append-nil had))))

-- ---- forms that were written

module _ (held written : Option (List ℕ)) (world : WorldState) (content : Content) (lines : List ℕ) where
  abbrev Tells : Status → Type 0
  Tells status = TellsForms status held written (forms world content) (left_out_lines world) lines

  pub forms_taken : (status : Status) → Tells status → TakesWords status
  forms_taken LeftOut told = tt
  forms_taken Done told = tt
  forms_taken (Fault number) told = tt
  forms_taken Helped told = absurd told
  forms_taken FormRefused told = absurd told
  forms_taken Unanswered told = absurd told
  forms_taken WordsRefused told = absurd told

  pub forms_fault : (status : Status) → Tells status → HasFaultNumber status
  forms_fault LeftOut told = λ number is. absurd (cc)
  forms_fault Done told = λ number is. absurd (cc)
  forms_fault (Fault number) told = text_fault held written (forms world content) (Fault number) told
  forms_fault Helped told = absurd told
  forms_fault FormRefused told = absurd told
  forms_fault Unanswered told = absurd told
  forms_fault WordsRefused told = absurd told

  pub forms_of_no_opening : (status : Status) (number : ℕ) → status ≡ Fault number → Tells status → is_opening_fault number ≡ true → ⊥
  forms_of_no_opening status number is told =
      text_of_no_opening held written (forms world content) (Fault number) number refl (subst Tells is told)

  module _ (had : List ℕ) (holds : held ≡ Some had) where
    pub forms_written : (status : Status) → Tells status → WritesForms content status lines had written
    forms_written LeftOut told = (world, told.0 had holds, told.1.0)
    forms_written Done told = (world, told.0 had holds, told.1.1)
    forms_written (Fault number) told = tt
    forms_written Helped told = absurd told
    forms_written FormRefused told = absurd told
    forms_written Unanswered told = absurd told
    forms_written WordsRefused told = absurd told

    pub forms_break : (functions : Functions) (status : Status) (number : ℕ) (input : List ℕ) → status ≡ Fault number
        → Tells status → TaskBreaksOff functions (Export content) input had written
    forms_break functions status number input is told =
        (world, text_front held written (forms world content) (Fault number) number had holds refl (subst Tells is told))

-- the forms of the world of an open store, and that none were written
module _ (content : Content) (world : WorldState) (of : Option WorldState) (is : Some world ≡ of) (held : Option (List ℕ)) where
  pub forms_of_world : (written : Option (List ℕ)) (status : Status) (text lines : List ℕ) → text ≡ forms world content → lines ≡ left_out_lines world
      → TellsForms status held written text lines lines → IfSome of (λ w. TellsForms status held written (forms w content) (left_out_lines w) lines)
  forms_of_world written status text lines same_forms same_lines told =
      subst (λ (o : Option WorldState). IfSome o (λ w. TellsForms status held written (forms w content) (left_out_lines w) lines)) is
      (subst (λ (l : List ℕ). TellsForms status held written (forms world content) l lines) same_lines
      (subst (λ (t : List ℕ). TellsForms status held written t lines lines) same_forms told))

  pub no_forms : (lines : List ℕ) → IfSome of (λ w. TellsForms (Fault NO_MEMORY) held held (forms w content) (left_out_lines w) lines)
  no_forms lines = subst (λ (o : Option WorldState). IfSome o (λ w. TellsForms (Fault NO_MEMORY) held held (forms w content) (left_out_lines w) lines)) is (inr (refl, refl))
