-- What steps one after the other come to.
use Rattle.std.proofs.Common.{◌≡◌, ℕ, ◌+◌, ◌==◌, Bool, true, false, List, [], ◌∷◌, ◌++◌, length, Option, None, Some, Result, Ok, Err, IsTrue, refl, sym, ap, ap₂, subst, ◌∙◌, inl, inr, append-nil, arith, Bor}
use Rattle.std.proofs.lemmas.Bool.{eq-eqb, ne_eqb}
use Rattle.disk_trait.specs.Disk.{State, IsHonest, IsSoundDisk}
use Rattle.gate_log.specs.Layout.{LogRecord}
use Rattle.lisp_object.specs.declared.refusal.TheConstants.{DEVICE, REOPEN}
use Rattle.plist_state.specs.State.{WorldState}
use Rattle.session_words.specs.declared.mode.Mode.{Mode}
use Rattle.prevalence_store.specs.declared.outcome.Outcome.{Outcome}
use Rattle.prevalence_store.specs.declared.outcome.Outcome.TheVariants.{Accepted, Snapshotted, Refused}
use Rattle.prevalence_store.specs.declared.step.Step.{Step}
use Rattle.prevalence_store.specs.declared.step.Step.TheVariants.{Form, Snapshot}
use Rattle.prevalence_store.specs.meaning.Acceptance.{Acceptance, accepts, accepted_record, records_of}
use Rattle.prevalence_store.specs.calls.Execute.{Executes, Stores, SurvivesAs}
use Rattle.user_macros.specs.Functions.{Functions}
use Rattle.prevalence_store.specs.calls.Run.{TakesStep, TakesSteps, acknowledged_in_steps, acknowledged_of_form, taken_in_steps, taken_of, world_of}
use Rattle.prevalence_store.specs.calls.Store.{StoreView}
use Rattle.prevalence_store.specs.calls.Snapshot.{Snapshots}
use Rattle.prevalence_store.specs.Theorem.{Survives}
use Rattle.prevalence_store.proofs.Surviving.{both_survive, unchanged_survives}

-- ---- no record is taken of a form that was refused for another reason than the device

refused_takes : (mode : Mode) (given : Result Acceptance ℕ) (number : ℕ) → (number == DEVICE) ≡ false → taken_of mode given (Refused number) ≡ []
refused_takes mode (Err code) number other = refl
refused_takes mode (Ok given) number other = rw other refl

refused_acknowledges : (mode : Mode) (given : Result Acceptance ℕ) (number : ℕ) → acknowledged_of_form mode given (Refused number) ≡ 0
refused_acknowledges mode (Err code) number = refl
refused_acknowledges mode (Ok given) number = refl

refused_world : (world : WorldState) (given : Result Acceptance ℕ) (number : ℕ) → world_of world given (Refused number) ≡ world
refused_world world (Err code) number = refl
refused_world world (Ok given) number = refl

pub stores_left : {D R : Type 0} (state : D → State) (old new : StoreView D R) (wrote : Bool) (mode : Mode) (own : List ℕ) (given : WorldState) → Stores state old new wrote mode own given → new.world ≡ Some given
stores_left state old new true mode own given stores = stores.left
stores_left state old new false mode own given stores = stores.1

module _ (functions : Functions) {D R : Type 0} (state : D → State) where
  -- ---- one step

  pub takes_form : (old new : StoreView D R) (mode : Mode) (text : Bor (List ℕ)) (outcome : Outcome) (o : Option WorldState) → (o ≡ None → (outcome ≡ Refused REOPEN) × (new ≡ old))
      → ((w : WorldState) → o ≡ Some w → Executes functions state old new w mode text.now outcome) → TakesStep functions state old new o (Form mode text) outcome
  takes_form old new mode text outcome None none some = none refl
  takes_form old new mode text outcome (Some w) none some = some w refl

  -- ---- steps

  pub steps_more : (old mid new : StoreView D R) (steps : List Step) (outcomes : List Outcome) (step : Step) (outcome : Outcome) → TakesSteps functions state old mid steps outcomes
      → TakesStep functions state mid new mid.world step outcome → TakesSteps functions state old new (steps ++ step ∷ []) (outcomes ++ outcome ∷ [])
  steps_more old mid new [] [] step outcome same one =
      (new, subst (λ (s : StoreView D R). TakesStep functions state s new s.world step outcome) same one, refl)
  steps_more old mid new (first ∷ steps) (given ∷ outcomes) step outcome takes one =
      (takes.0, takes.1, steps_more takes.0 mid new steps outcomes step outcome takes.2 one)
  steps_more old mid new [] (given ∷ outcomes) step outcome takes one = absurd takes
  steps_more old mid new (first ∷ steps) [] step outcome takes one = absurd takes

  -- a store without a world takes nothing more
  pub still_none : (old new : StoreView D R) (steps : List Step) (outcomes : List Outcome) → old.world ≡ None → TakesSteps functions state old new steps outcomes
      → (w : WorldState) → (new ≡ old) × (taken_in_steps functions w steps outcomes ≡ []) × (acknowledged_in_steps functions w steps outcomes ≡ 0)
  still_none old new [] [] none takes w = (takes, refl, refl)
  still_none old new [] (given ∷ outcomes) none takes w = absurd takes
  still_none old new (first ∷ steps) [] none takes w = absurd takes
  still_none old new (Form mode text ∷ steps) (outcome ∷ outcomes) none takes w =
      let one = subst (λ (o : Option WorldState). TakesStep functions state old takes.0 o (Form mode text) outcome) none takes.1 in
      let given = accepts functions w mode text.now in
      let rest = still_none takes.0 new steps outcomes (ap (λ (s : StoreView D R). s.world) one.1 ∙ none) takes.2 (world_of w given outcome) in (
        rest.0 ∙ one.1,
        ap₂ (λ (a b : List LogRecord). a ++ b) (ap (taken_of mode given) one.0 ∙ refused_takes mode given REOPEN refl) rest.1,
        ap₂ (λ (a b : ℕ). a + b) (ap (acknowledged_of_form mode given) one.0 ∙ refused_acknowledges mode given REOPEN) rest.2,
      )
  still_none old new (Snapshot ∷ steps) (outcome ∷ outcomes) none takes w =
      let one = subst (λ (o : Option WorldState). TakesStep functions state old takes.0 o Snapshot outcome) none takes.1 in
      let rest = still_none takes.0 new steps outcomes (ap (λ (s : StoreView D R). s.world) one.1 ∙ none) takes.2 w in
      (rest.0 ∙ one.1, rest.1, rest.2)

  -- ---- what a crash leaves

  module _ (sound : (d : D) → IsHonest (state d) → IsSoundDisk (state d)) where
    -- a step that left a world, and steps after it
    then_more : (old mid new : StoreView D R) (w v : WorldState) (xs ys : List LogRecord) (n : ℕ) → SurvivesAs functions state old mid w xs (length xs) → mid.world ≡ Some v
        → SurvivesAs functions state mid new v ys n → SurvivesAs functions state old new w (xs ++ ys) (length xs + n)
    then_more old mid new w v xs ys n first left second known claims keeps =
        let before = subst (λ o. Survives functions (state old.disk) (state mid.disk) w xs (length xs) o) left (first known claims keeps) in
        both_survive functions (state old.disk) (state mid.disk) (state new.disk) w v xs ys n new.world before
        (second left (subst IsTrue (sym before.honest) claims) (before.kept v refl))

    -- the same forms in other words
    in_words : (old new : StoreView D R) (w : WorldState) (xs ys : List LogRecord) (n m : ℕ) → xs ≡ ys → n ≡ m → SurvivesAs functions state old new w xs n → SurvivesAs functions state old new w ys m
    in_words old new w xs ys n m taken count survives =
        subst (λ (es : List LogRecord). SurvivesAs functions state old new w es m) taken (subst (λ (k : ℕ). SurvivesAs functions state old new w xs k) count survives)

    -- a step that did nothing, and steps after it
    from_same : (old mid new : StoreView D R) (w : WorldState) (ys : List LogRecord) (n : ℕ) → mid ≡ old → SurvivesAs functions state mid new w ys n → SurvivesAs functions state old new w ys n
    from_same old mid new w ys n same survives = subst (λ (s : StoreView D R). SurvivesAs functions state s new w ys n) same survives

    -- a step in which the device failed, and what was asked after it
    from_fault : (old mid new : StoreView D R) (w : WorldState) (xs : List LogRecord) → new ≡ mid → SurvivesAs functions state old mid w xs 0 → SurvivesAs functions state old new w xs 0
    from_fault old mid new w xs same survives = subst (λ (s : StoreView D R). SurvivesAs functions state old s w xs 0) (sym same) survives

    module _ (old mid new : StoreView D R) (w : WorldState) (steps : List Step) (outcomes : List Outcome) (rest : TakesSteps functions state mid new steps outcomes)
        (more : (v : WorldState) → SurvivesAs functions state mid new v (taken_in_steps functions v steps outcomes) (acknowledged_in_steps functions v steps outcomes)) where
      abbrev After : WorldState → List LogRecord → ℕ → Type 0
      After v xs n = SurvivesAs functions state old new w (xs ++ taken_in_steps functions v steps outcomes) (n + acknowledged_in_steps functions v steps outcomes)

      -- the step changed nothing
      undone : (v : WorldState) (xs : List LogRecord) (n : ℕ) → v ≡ w → xs ≡ [] → n ≡ 0 → mid ≡ old → After v xs n
      undone v xs n world none zero_is same =
          subst (λ (u : WorldState). After u xs n) (sym world)
          (in_words old new w (taken_in_steps functions w steps outcomes) _ (acknowledged_in_steps functions w steps outcomes) _
          (ap (λ (es : List LogRecord). es ++ taken_in_steps functions w steps outcomes) (sym none)) (omega arith)
          (from_same old mid new w _ _ same (more w)))

      -- the device failed in it
      faulted : (v : WorldState) (xs ys : List LogRecord) (n : ℕ) → xs ≡ ys → n ≡ 0 → mid.world ≡ None → SurvivesAs functions state old mid w ys 0 → After v xs n
      faulted v xs ys n is zero_is none survives =
          let dead = still_none mid new steps outcomes none rest v in
          in_words old new w ys _ 0 _
          (sym (append-nil ys) ∙ (λ i. sym is i ++ sym dead.1 i)) (let none_more = dead.2 in omega arith)
          (from_fault old mid new w ys dead.0 survives)

      form_survives : (mode : Mode) (text : List ℕ) (o : Outcome) → Executes functions state old mid w mode text o
          → After (world_of w (accepts functions w mode text) o) (taken_of mode (accepts functions w mode text) o) (acknowledged_of_form mode (accepts functions w mode text) o)
      form_survives mode text (Accepted value) is =
          let left = stores_left state old mid is.given.wrote mode is.given.text is.given.world is.stored in
          subst (λ (a : Result Acceptance ℕ). After (world_of w a (Accepted value)) (taken_of mode a (Accepted value)) (acknowledged_of_form mode a (Accepted value))) (sym is.accepted)
          (then_more old mid new w is.given.world (records_of is.given.wrote mode is.given.text) (taken_in_steps functions is.given.world steps outcomes)
          (acknowledged_in_steps functions is.given.world steps outcomes) is.survives left (more is.given.world))
      form_survives mode text Snapshotted is = absurd is
      form_survives mode text (Refused number) (inl refused) =
          subst (λ (a : Result Acceptance ℕ). After (world_of w a (Refused number)) (taken_of mode a (Refused number)) (acknowledged_of_form mode a (Refused number))) (sym refused.refused)
          (undone w [] 0 refl refl refl refused.unchanged)
      form_survives mode text (Refused number) (inr (inl full)) =
          let given = accepts functions w mode text in
          undone _ _ _ (refused_world w given number) (refused_takes mode given number (ne_eqb number DEVICE (λ bad. let is = full.full in absurd (omega arith)))) (refused_acknowledges mode given number) full.unchanged
      form_survives mode text (Refused number) (inr (inr (inr memory))) =
          let given = accepts functions w mode text in
          undone _ _ _ (refused_world w given number) (refused_takes mode given number (ne_eqb number DEVICE (λ bad. let is = memory.memory in absurd (omega arith)))) (refused_acknowledges mode given number) memory.unchanged
      form_survives mode text (Refused number) (inr (inr (inl fault))) =
          subst (λ (a : Result Acceptance ℕ). After (world_of w a (Refused number)) (taken_of mode a (Refused number)) (acknowledged_of_form mode a (Refused number))) (sym fault.accepted)
          (faulted w (taken_of mode (Ok fault.given) (Refused number)) (accepted_record mode fault.given.text ∷ []) 0 (rw (eq-eqb number DEVICE fault.device) refl) refl fault.failed.unknown fault.survives)

      snapshot_survives : (o : Outcome) → Snapshots functions state old mid w o → SurvivesAs functions state old new w (taken_in_steps functions w steps outcomes) (acknowledged_in_steps functions w steps outcomes)
      snapshot_survives (Accepted value) is = absurd is
      snapshot_survives Snapshotted is =
          in_words old new w _ _ (0 + acknowledged_in_steps functions w steps outcomes) (acknowledged_in_steps functions w steps outcomes) refl (omega arith)
          (then_more old mid new w w [] (taken_in_steps functions w steps outcomes) (acknowledged_in_steps functions w steps outcomes) is.survives is.renews.left (more w))
      snapshot_survives (Refused number) (inl large) = from_same old mid new w _ _ large.unchanged (more w)
      snapshot_survives (Refused number) (inr (inr memory)) = from_same old mid new w _ _ memory.unchanged (more w)
      snapshot_survives (Refused number) (inr (inl fault)) =
          let dead = still_none mid new steps outcomes fault.failed.unknown rest w in
          in_words old new w [] _ 0 _ (sym dead.1) (sym dead.2) (from_fault old mid new w [] dead.0 fault.survives)

    pub steps_survive : (old new : StoreView D R) (steps : List Step) (outcomes : List Outcome) → TakesSteps functions state old new steps outcomes
        → (w : WorldState) → SurvivesAs functions state old new w (taken_in_steps functions w steps outcomes) (acknowledged_in_steps functions w steps outcomes)
    steps_survive old new [] [] takes w = unchanged_survives functions state sound old new w takes
    steps_survive old new [] (given ∷ outcomes) takes w = absurd takes
    steps_survive old new (first ∷ steps) [] takes w = absurd takes
    steps_survive old new (Form mode text ∷ steps) (outcome ∷ outcomes) takes w = λ known.
        form_survives old takes.0 new w steps outcomes takes.2 (steps_survive takes.0 new steps outcomes takes.2) mode text.now outcome
        (subst (λ (o : Option WorldState). TakesStep functions state old takes.0 o (Form mode text) outcome) known takes.1) known
    steps_survive old new (Snapshot ∷ steps) (outcome ∷ outcomes) takes w = λ known.
        snapshot_survives old takes.0 new w steps outcomes takes.2 (steps_survive takes.0 new steps outcomes takes.2) outcome
        (subst (λ (o : Option WorldState). TakesStep functions state old takes.0 o Snapshot outcome) known takes.1) known
