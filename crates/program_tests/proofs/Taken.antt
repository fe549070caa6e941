-- What is left once a form was taken, and found again after a crash.
use Rattle.std.proofs.Common.{◌≡◌, ℕ, ◌+◌, Bool, true, false, List, [], ◌++◌, length, Some, subst, arith}
use Rattle.std.proofs.lemmas.List.{append-nil, take_all}
use Rattle.disk_trait.specs.Disk.{State}
use Rattle.gate_log.specs.Layout.{LogRecord}
use Rattle.plist_state.specs.State.{WorldState}
use Rattle.session_words.specs.declared.mode.Mode.{Mode}
use Rattle.prevalence_store.specs.meaning.Acceptance.{after}
use Rattle.prevalence_store.specs.calls.Execute.{Stores}
use Rattle.prevalence_store.specs.calls.Store.{StoreView}
use Rattle.prevalence_store.specs.Theorem.{IsAfterSome}
use Rattle.user_macros.specs.Functions.{Functions}

-- the world that an accepted form leaves
pub left_by : {D R : Type 0} (state : D → State) (old new : StoreView D R) (wrote : Bool) (mode : Mode) (text : List ℕ) (world : WorldState)
    → Stores state old new wrote mode text world → new.world ≡ Some world
left_by state old new true mode text world stored = stored.left
left_by state old new false mode text world stored = stored.1

-- after all of these forms the world is the one that they leave
pub same_world : (functions : Functions) (first now world : WorldState) (forms : List LogRecord)
    → IsAfterSome functions first (forms ++ []) (0 + length forms) now → after functions first forms ≡ Some world → now ≡ world
same_world functions first now world forms found left =
    let all = append-nil forms in
    let some = subst (λ (fs : List LogRecord). IsAfterSome functions first fs (0 + length forms) now) all found in
    let enough = some.enough in
    let after_all : after functions first forms ≡ Some now =
    subst (λ (fs : List LogRecord). after functions first fs ≡ Some now) (take_all some.count forms (omega arith)) some.after_those in
    cc
