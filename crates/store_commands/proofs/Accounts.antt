-- The store as a session begins, and as zeros are cut after it.
use Rattle.std.proofs.Common.{◌≡◌, ◌⊎◌, ℕ, Bool, List, Option, None, Some, IsSome, Result, Ok, Err, refl, sym, ap, subst, ◌∙◌, inl, inr}
use Rattle.disk_trait.specs.Disk.{State}
use Rattle.lisp_object.specs.declared.refusal.TheConstants.{DEVICE, NO_MEMORY}
use Rattle.plist_state.specs.State.{WorldState}
use Rattle.prevalence_store.specs.calls.Open.{IsOpened}
use Rattle.prevalence_store.specs.calls.Store.{StoreView}
use Rattle.prevalence_store.specs.calls.Zeros.{CutsZeros, TriesToCutZeros}
use Rattle.prevalence_store.proofs.calls.CuttingZeros.{cut_after}
use Rattle.session_ledger.specs.OutgoingLines.{WentOut, handings_of}
use Rattle.sessions.specs.Account.{Account, AreUnderWay}
use Rattle.sessions.specs.Serve.{ended_after_cut}
use Rattle.sessions.specs.declared.ending.Ended.{Ended}
use Rattle.sessions.specs.declared.ending.Ended.TheVariants.{Store}
use Rattle.store_commands.specs.Accounts.{EndsAccount}
use Rattle.store_laws.specs.SessionLines.{account_after}
use Rattle.user_macros.specs.Functions.{Functions}

-- it has a world
pub known_world : {A : Type 0} (left : Option A) → IsSome left → (world : A) × (left ≡ Some world)
known_world None some = absurd (cc)
known_world (Some world) some = (world, refl)

-- a store that is to write zeros ahead was opened as it was
pub opened_still : (functions : Functions) {D R : Type 0} (state : D → State) (disk : D) (macros : R) (limit : ℕ) (store ahead : StoreView D R) → ahead ≡ store
    → IsOpened functions state disk macros limit store → IsOpened functions state disk macros limit ahead
opened_still functions {D} {R} state disk macros limit store ahead same opened = subst (λ (s : StoreView D R). IsOpened functions state disk macros limit s) (sym same) opened

-- the number with which a cut is refused by a store that is open
abbrev pub IsFaultOfCut : ℕ → Type 0
IsFaultOfCut number = (number ≡ DEVICE) ⊎ (number ≡ NO_MEMORY)

-- a session ended as it served, or the cut failed
abbrev pub EndsAs : (served_ended ended : Ended) → Type 0
EndsAs served_ended ended = (ended ≡ served_ended) ⊎ ((number : ℕ) × (ended ≡ Store number) × IsFaultOfCut number)

module _ (functions : Functions) {D R : Type 0} (state : D → State) (served closed : StoreView D R) (tries : TriesToCutZeros functions state served closed) where
  -- what was under way is all that was done
  under_way_further : (account : Account D) → AreUnderWay functions state account served → AreUnderWay functions state account closed
  under_way_further account way =
      let both = cut_after functions state (state account.disk) served closed tries account.now way.taken way.survives way.all_or_none in
      record { taken = way.taken; survives = both.0; all_or_none = both.1 }

  pub went_further : (first : Account D) (held written : Option (List ℕ)) → WentOut functions state first served held written → WentOut functions state first closed held written
  went_further first held written went = record { out = went.out; since = under_way_further (account_after first (handings_of went.out.sent)) went.since }

  pub ends_further : (account : Option (Account D)) → EndsAccount functions state served account → EndsAccount functions state closed account
  ends_further account ends kept is = under_way_further kept (ends kept is)

  module _ (served_ended ended : Ended) where
    by_result : (world : WorldState) (wrote : Bool) (result : Result Unit ℕ) → ended ≡ ended_after_cut result served_ended → CutsZeros functions state served closed world wrote result → EndsAs served_ended ended
    by_result world wrote (Ok done) is gone = inl is
    by_result world wrote (Err number) is (inl fault) = inr (DEVICE, is ∙ ap (λ (n : ℕ). ended_after_cut (Err n) served_ended) fault.device, inl refl)
    by_result world wrote (Err number) is (inr memory) = inr (NO_MEMORY, is ∙ ap (λ (n : ℕ). ended_after_cut (Err n) served_ended) memory.memory, inr refl)

    in_world : (left : Option WorldState) → served.world ≡ left → ended ≡ ended_after_cut tries.result served_ended → EndsAs served_ended ended
    in_world None none is = inl (is ∙ ap (λ (r : Result Unit ℕ). ended_after_cut r served_ended) (tries.closed none).0)
    in_world (Some world) known is = by_result world tries.wrote tries.result is (tries.cuts world known)

    pub ends_as : ended ≡ ended_after_cut tries.result served_ended → EndsAs served_ended ended
    ends_as is = in_world served.world refl is
