-- What steps one after the other come to, and what a crash leaves of them.
use Rattle.std.specs.Prelude.{◌≡◌, ℕ, ◌+◌, ◌==◌, if◌then◌else◌, List, [], ◌∷◌, ◌++◌, length, Option, None, Some, Result, Ok, Err}
use Rattle.disk_trait.specs.Disk.{State}
use Rattle.gate_log.specs.Layout.{LogRecord}
use Rattle.lisp_object.specs.declared.refusal.TheConstants.{DEVICE}
use Rattle.plist_state.specs.State.{WorldState}
use Rattle.session_words.specs.declared.mode.Mode.{Mode}
use Rattle.prevalence_store.specs.declared.outcome.Outcome.{Outcome}
use Rattle.prevalence_store.specs.declared.outcome.Outcome.TheVariants.{Accepted, Snapshotted, Refused}
use Rattle.prevalence_store.specs.declared.step.Step.{Step}
use Rattle.prevalence_store.specs.declared.step.Step.TheVariants.{Form, Snapshot}
use Rattle.prevalence_store.specs.meaning.Acceptance.{Acceptance, accepts, accepted_record, records_of}
use Rattle.prevalence_store.specs.calls.Execute.{AsksToReopen, Executes}
use Rattle.user_macros.specs.Functions.{Functions}
use Rattle.prevalence_store.specs.calls.Store.{StoreView}
use Rattle.prevalence_store.specs.calls.Snapshot.{Snapshots}

module _ (functions : Functions) {D R : Type 0} (state : D → State) where
  -- what became of a step, in the world that the store had: what `execute` or `snapshot` answers in it
  abbrev pub TakesStep : StoreView D R → StoreView D R → Option WorldState → Step → Outcome → Type 0
  TakesStep old new None step outcome = AsksToReopen old new outcome
  TakesStep old new (Some world) (Form mode text) outcome = Executes functions state old new world mode text.now outcome
  TakesStep old new (Some world) Snapshot outcome = Snapshots functions state old new world outcome

  -- What became of steps: each has its outcome, in the state that the ones before it left.
  abbrev pub TakesSteps : StoreView D R → StoreView D R → List Step → List Outcome → Type 0
  TakesSteps old new [] [] = new ≡ old
  TakesSteps old new (step ∷ steps) (outcome ∷ outcomes) = (mid : StoreView D R) × TakesStep old mid old.world step outcome × TakesSteps mid new steps outcomes
  TakesSteps old new [] (outcome ∷ outcomes) = ⊥
  TakesSteps old new (step ∷ steps) [] = ⊥

-- ---- the forms that steps took

-- of a form, by what the world accepts and by its outcome: its record, if it was accepted and wrote, and if it was under
-- way as the device failed
abbrev pub taken_of : Mode → Result Acceptance ℕ → Outcome → List LogRecord
taken_of mode (Err number) outcome = []
taken_of mode (Ok given) (Accepted value) = records_of given.wrote mode given.text
taken_of mode (Ok given) Snapshotted = []
taken_of mode (Ok given) (Refused number) = if number == DEVICE then accepted_record mode given.text ∷ [] else []

-- how many of these were acknowledged: all that were called accepted
abbrev pub acknowledged_of_form : Mode → Result Acceptance ℕ → Outcome → ℕ
acknowledged_of_form mode (Err number) outcome = 0
acknowledged_of_form mode (Ok given) (Accepted value) = length (records_of given.wrote mode given.text)
acknowledged_of_form mode (Ok given) Snapshotted = 0
acknowledged_of_form mode (Ok given) (Refused number) = 0

-- the world after a step with this outcome: that which an accepted form left, and else the one that was there
abbrev pub world_of : WorldState → Result Acceptance ℕ → Outcome → WorldState
world_of world (Err number) outcome = world
world_of world (Ok given) (Accepted value) = given.world
world_of world (Ok given) Snapshotted = world
world_of world (Ok given) (Refused number) = world

module _ (functions : Functions) where
  -- the records of all forms that were accepted and wrote, in order, and of the one under way as the device failed, if any
  abbrev pub taken_in_steps : WorldState → List Step → List Outcome → List LogRecord
  taken_in_steps world [] outcomes = []
  taken_in_steps world (step ∷ steps) [] = []
  taken_in_steps world (Form mode text ∷ steps) (outcome ∷ outcomes) =
      taken_of mode (accepts functions world mode text.now) outcome
      ++ taken_in_steps (world_of world (accepts functions world mode text.now) outcome) steps outcomes
  taken_in_steps world (Snapshot ∷ steps) (outcome ∷ outcomes) = taken_in_steps world steps outcomes

  -- how many of them were acknowledged
  abbrev pub acknowledged_in_steps : WorldState → List Step → List Outcome → ℕ
  acknowledged_in_steps world [] outcomes = 0
  acknowledged_in_steps world (step ∷ steps) [] = 0
  acknowledged_in_steps world (Form mode text ∷ steps) (outcome ∷ outcomes) =
      acknowledged_of_form mode (accepts functions world mode text.now) outcome
      + acknowledged_in_steps (world_of world (accepts functions world mode text.now) outcome) steps outcomes
  acknowledged_in_steps world (Snapshot ∷ steps) (outcome ∷ outcomes) = acknowledged_in_steps world steps outcomes
