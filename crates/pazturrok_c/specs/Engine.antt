-- What the calls of the engine answer, by what the calls of its store gave.
use Rattle.std.specs.Prelude.{◌≡◌, ◌⊎◌, ℕ, Bool, true, false, List, [], ◌++◌, length, map, Option, None, Some}
use Rattle.std.specs.Borrow.{Bor}
use Rattle.std.specs.Int.{w16, w64, to_le_bytes}
use Rattle.std.specs.List.{flat_map}
use Rattle.canon_printer.specs.Printed.{printed}
use Rattle.deferred_disk.specs.DiskRequests.{first_calls}
use Rattle.deferred_disk.specs.Disk.{calls_of, pending_of, state_by_calls}
use Rattle.disk_trait.specs.Orders.{OrderValue}
use Rattle.deferred_disk.specs.declared.disk.DeferredDisk.{DeferredDisk}
use Rattle.lisp_object.specs.Datum.{object_of}
use Rattle.lisp_object.specs.Object.{Object}
use Rattle.lisp_object.specs.declared.refusal.TheConstants.{NO_MEMORY, REOPEN}
use Rattle.plist_state.specs.State.{WorldState}
use Rattle.prevalence_store.specs.calls.Execute.{AsksToReopen, Executes}
use Rattle.prevalence_store.specs.calls.ExecuteAll.{AreExecuted, ExecutesAll}
use Rattle.prevalence_store.specs.calls.Open.{IsOpened, IsUnopened}
use Rattle.prevalence_store.specs.calls.Snapshot.{Snapshots}
use Rattle.prevalence_store.specs.calls.Store.{StoreView}
use Rattle.session_words.specs.declared.mode.Mode.{Mode}
use Rattle.session_words.specs.declared.mode.Mode.TheVariants.{Current, Rescue}
use Rattle.prevalence_store.specs.declared.outcome.Outcome.{Outcome}
use Rattle.prevalence_store.specs.declared.outcome.Outcome.TheVariants.{Accepted, Snapshotted, Refused}
use Rattle.pazturrok_c.specs.JoinedTexts.{texts_in}
use Rattle.six_functions.specs.MacroFunctions.{six_functions}

-- the mode that a flag asks for
abbrev pub mode_in : Bool → Mode
mode_in true = Rescue
mode_in false = Current

-- ---- what is handed out of an outcome

-- the value as it is printed in a world; nothing is printed where there is none
abbrev pub value_text_in : Option WorldState → Object → List ℕ
value_text_in (Some world) value = printed world.packages world.current_package value
value_text_in None value = []

-- The number of an outcome, and the answer to a form that was accepted. Where there is no room for its text the number is 90.
abbrev pub IsOutcomeTold : Option WorldState → Outcome → ℕ → List ℕ → Type 0
IsOutcomeTold left (Accepted value) number answer = ((number ≡ 0) × (answer ≡ value_text_in left (object_of value))) ⊎ (number ≡ NO_MEMORY)
IsOutcomeTold left Snapshotted number answer = number ≡ 0
IsOutcomeTold left (Refused refusal) number answer = number ≡ refusal

-- of one outcome of many its number, the length of its answer, and the answer, the lowest byte of a number first
abbrev pub numbered_answer : ℕ → List ℕ → List ℕ
numbered_answer number answer = to_le_bytes w16 number ++ (to_le_bytes w64 (length answer) ++ answer)

-- the answer to a form, as bytes: its number, and the text of its value
abbrev pub outcome_bytes : Option WorldState → Outcome → List ℕ
outcome_bytes left (Accepted value) = numbered_answer 0 (value_text_in left (object_of value))
outcome_bytes left Snapshotted = numbered_answer 0 []
outcome_bytes left (Refused number) = numbered_answer number []

-- The number of a call with many texts, and the bytes that tell what became of each. Where there is no room for those the
-- number is 90.
abbrev pub AreOutcomesTold : Option WorldState → List Outcome → ℕ → List ℕ → Type 0
AreOutcomesTold left outcomes number answers = ((number ≡ 0) × (answers ≡ flat_map (outcome_bytes left) outcomes)) ⊎ (number ≡ NO_MEMORY)

-- ---- the calls

-- While orders are open, a call is refused with 61, and nothing changes.
abbrev pub IsBarredByOrders : {E : Type 0} → List OrderValue → E → E → ℕ → Type 0
IsBarredByOrders pending old new number = (pending ≡ [] → ⊥) → (number ≡ REOPEN) × (new ≡ old)

-- two files of these bytes were opened
pub record IsOpenedOn {R : Type 0} (a b : List ℕ) (limit : ℕ) (store : StoreView DeferredDisk R) : Type 0 where
  pub disk : DeferredDisk
  pub begins : calls_of disk ≡ first_calls a b
  pub macros : R
  pub opened : IsOpened six_functions state_by_calls disk macros limit store

-- two files of these bytes were refused with this number
pub record IsUnopenedOn (a b : List ℕ) (limit number : ℕ) : Type 0 where
  pub disk : DeferredDisk
  pub begins : calls_of disk ≡ first_calls a b
  pub whole : Bool
  pub back : DeferredDisk
  pub unopened : IsUnopened six_functions state_by_calls disk whole limit number back

module _ {R : Type 0} (old new : StoreView DeferredDisk R) where
  -- the store executed the text
  pub record ExecutesText (mode : Mode) (text : List ℕ) (number : ℕ) (answer : List ℕ) : Type 0 where
    pub outcome : Outcome
    pub reopen : old.world ≡ None → AsksToReopen old new outcome
    pub executes : (world : WorldState) → old.world ≡ Some world → Executes six_functions state_by_calls old new world mode text outcome
    pub answered : IsOutcomeTold new.world outcome number answer

  -- the store took a snapshot
  pub record StoreTakesSnapshot (number : ℕ) : Type 0 where
    pub outcome : Outcome
    pub reopen : old.world ≡ None → AsksToReopen old new outcome
    pub snapshots : (world : WorldState) → old.world ≡ Some world → Snapshots six_functions state_by_calls old new world outcome
    pub answered : IsOutcomeTold new.world outcome number []

  -- The store executed the texts that end at these places, one after the other. Where there is no room for them or for what they gave
  -- the number is 90.
  pub record AreExecutedOf (mode : Mode) (bytes ends : List ℕ) (number : ℕ) (answers : List ℕ) : Type 0 where
    pub texts : List (Bor (List ℕ))
    pub are : map (λ text. text.now) texts ≡ texts_in 0 bytes ends
    pub outcomes : List Outcome
    pub reopen : old.world ≡ None → AreExecuted six_functions state_by_calls old new mode texts outcomes
    pub executes : (world : WorldState) → old.world ≡ Some world → ExecutesAll six_functions state_by_calls old new world mode texts outcomes
    pub answered : AreOutcomesTold new.world outcomes number answers

  -- the store executed the texts; or there was no room for them, with the number 90, and nothing changes
  abbrev pub ExecutesMany : Mode → List ℕ → List ℕ → ℕ → List ℕ → Type 0
  ExecutesMany mode bytes ends number answers = AreExecutedOf mode bytes ends number answers ⊎ ((number ≡ NO_MEMORY) × (new ≡ old))
