-- What is handed on one time after the other, as calls in a row.
use Rattle.std.proofs.Common.{◌≡◌, ℕ, List, [], ◌∷◌, ◌++◌, map, Option, None, Some, refl, subst, append-nil}
use Rattle.disk_trait.specs.Disk.{State, IsHonest}
use Rattle.plist_state.specs.State.{WorldState}
use Rattle.prevalence_store.specs.Theorem.{Call, Headline, Run}
use Rattle.sessions.specs.Account.{Account, AreStored, AreUnderWay, call_of_stored, with_forms}
use Rattle.prevalence_store.specs.calls.Store.{StoreView}
use Rattle.store_laws.specs.Batches.{AreTogether, InWholeCalls}
use Rattle.store_laws.specs.Histories.{EventsHappened, called}
use Rattle.store_laws.specs.SessionLines.{AreCalls, AreHanded, Handing, account_after, call_since, calls_of_handings}
use Rattle.user_macros.specs.Functions.{Functions}

module _ (functions : Functions) {D : Type 0} (state : D → State) where
  -- calls in a row, as events
  pub as_events : (calls : List (Call D)) (disk : D) (left : Option WorldState) → Run functions state disk left calls → EventsHappened functions state disk left (map called calls)
  as_events [] disk left run = tt
  as_events (call ∷ calls) disk None run = absurd run
  as_events (call ∷ calls) disk (Some world) run = (run.0, as_events calls call.disk call.left run.1)

  -- what follows from it, by the laws of calls in a row
  pub are_calls : (account : Account D) (calls : List (Call D)) → Run functions state account.disk (Some account.now) calls × AreTogether functions state account.disk (Some account.now) calls
      → ((earlier later : List (Call D)) → Run functions state account.disk (Some account.now) (earlier ++ later) → Headline functions state account.disk account.now earlier later)
      → ((earlier later : List (Call D)) → Run functions state account.disk (Some account.now) (earlier ++ later) → AreTogether functions state account.disk (Some account.now) (earlier ++ later)
      → InWholeCalls functions state account.disk account.now earlier later)
      → AreCalls functions state account calls
  are_calls account calls (run, together) headline whole = record {
    run = run;
    together = together;
    headline = λ earlier later parts. headline earlier later (subst (λ (cs : List (Call D)). Run functions state account.disk (Some account.now) cs) parts run);
    whole = λ earlier later parts.
        whole earlier later (subst (λ (cs : List (Call D)). Run functions state account.disk (Some account.now) cs) parts run)
        (subst (λ (cs : List (Call D)). AreTogether functions state account.disk (Some account.now) cs) parts together);
    happened = as_events calls account.disk (Some account.now) run;
  }

module _ (functions : Functions) {D R : Type 0} (state : D → State) where
  -- the last comes after the others
  pub handed_further : (handings : List (Handing D R)) (account : Account D) (last : Handing D R) → AreHanded functions state account handings
      → AreStored functions state (account_after account handings) last.store last.lines last.forms → AreHanded functions state account (handings ++ last ∷ [])
  handed_further [] account last handed stored = (stored, tt)
  handed_further (one ∷ more) account last handed stored = (handed.0, handed_further more (with_forms one.forms one.store account) last handed.1 stored)

  -- and the account after them all
  pub account_further : (handings : List (Handing D R)) (account : Account D) (last : Handing D R) → account_after account (handings ++ last ∷ []) ≡ with_forms last.forms last.store (account_after account handings)
  account_further [] account last = refl
  account_further (one ∷ more) account last = account_further more (with_forms one.forms one.store account) last

  -- ---- the calls

  module _ (is_call : (account : Account D) (store : StoreView D R) (lines : List ℕ) (forms : ℕ) → IsHonest (state account.disk) → (stored : AreStored functions state account store lines forms)
      → Run functions state account.disk (Some account.now) (call_of_stored functions state account store lines forms stored ∷ [])
      × ((with_forms forms store account).now ≡ stored.far.world) × IsHonest (state store.disk)) where
    -- and others after them
    followed : (account : Account D) (handings : List (Handing D R)) (handed : AreHanded functions state account handings) → IsHonest (state account.disk) → (others : List (Call D))
        → (IsHonest (state (account_after account handings).disk)
        → Run functions state (account_after account handings).disk (Some (account_after account handings).now) others
        × AreTogether functions state (account_after account handings).disk (Some (account_after account handings).now) others)
        → Run functions state account.disk (Some account.now) (calls_of_handings functions state account handings handed ++ others)
        × AreTogether functions state account.disk (Some account.now) (calls_of_handings functions state account handings handed ++ others)
    followed account [] handed honest others rest = rest honest
    followed account (one ∷ more) handed honest others rest =
        let is = is_call account one.store one.lines one.forms honest handed.0 in
        let next = with_forms one.forms one.store account in
        let all = followed next more handed.1 is.2 others rest in (
          (is.0.0, subst (λ (w : WorldState). Run functions state one.store.disk (Some w) (calls_of_handings functions state next more handed.1 ++ others)) is.1 all.0),
          (handed.0.all_or_none honest, subst (λ (w : WorldState). AreTogether functions state one.store.disk (Some w) (calls_of_handings functions state next more handed.1 ++ others)) is.1 all.1),
        )

    -- up to the last line
    pub handed_calls : (account : Account D) (handings : List (Handing D R)) (handed : AreHanded functions state account handings) → IsHonest (state account.disk)
        → Run functions state account.disk (Some account.now) (calls_of_handings functions state account handings handed)
        × AreTogether functions state account.disk (Some account.now) (calls_of_handings functions state account handings handed)
    handed_calls account handings handed honest =
        subst (λ (cs : List (Call D)). Run functions state account.disk (Some account.now) cs × AreTogether functions state account.disk (Some account.now) cs)
        (append-nil (calls_of_handings functions state account handings handed)) (followed account handings handed honest [] (λ there. (tt, tt)))

    -- and what was done since
    pub ended_calls : (account : Account D) (handings : List (Handing D R)) (handed : AreHanded functions state account handings) → IsHonest (state account.disk)
        → (store : StoreView D R) (since : AreUnderWay functions state (account_after account handings) store)
        → Run functions state account.disk (Some account.now) (calls_of_handings functions state account handings handed ++ call_since functions state (account_after account handings) store since ∷ [])
        × AreTogether functions state account.disk (Some account.now) (calls_of_handings functions state account handings handed ++ call_since functions state (account_after account handings) store since ∷ [])
    ended_calls account handings handed honest store since =
        followed account handings handed honest (call_since functions state (account_after account handings) store since ∷ [])
        (λ there. ((since.survives there, tt), (since.all_or_none there, tt)))
