-- Lines that were handed to the recipient of a session, one time after the other, and what was done since the last of them.
use Rattle.std.specs.Prelude.{◌≡◌, ℕ, List, [], ◌∷◌, ◌++◌, map, Some}
use Rattle.disk_trait.specs.Disk.{State}
use Rattle.prevalence_store.specs.Theorem.{Call, Headline, Run}
use Rattle.sessions.specs.Account.{Account, AreStored, AreUnderWay, call_of_stored, with_forms}
use Rattle.prevalence_store.specs.calls.Store.{StoreView}
use Rattle.store_laws.specs.Batches.{AreTogether, InWholeCalls}
use Rattle.store_laws.specs.Histories.{EventsHappened, called}
use Rattle.user_macros.specs.Functions.{Functions}

-- lines of so many forms, and the store as they were handed on
pub record Handing (D R : Type 0) : Type 0 where
  pub store : StoreView D R
  pub lines : List ℕ
  pub forms : ℕ

-- the account after these lines were handed on
abbrev pub account_after : {D R : Type 0} → Account D → List (Handing D R) → Account D
account_after account [] = account
account_after account (one ∷ more) = account_after (with_forms one.forms one.store account) more

module _ (functions : Functions) {D R : Type 0} (state : D → State) where
  -- the lines were handed on one time after the other, each time as the recipient asks
  abbrev pub AreHanded : Account D → List (Handing D R) → Type 0
  AreHanded account [] = Unit {0}
  AreHanded account (one ∷ more) = AreStored functions state account one.store one.lines one.forms × AreHanded (with_forms one.forms one.store account) more

  -- the times that lines were handed on, each as a call of the store
  abbrev pub calls_of_handings : (account : Account D) (handings : List (Handing D R)) → AreHanded account handings → List (Call D)
  calls_of_handings account [] handed = []
  calls_of_handings account (one ∷ more) handed =
      call_of_stored functions state account one.store one.lines one.forms handed.0 ∷ calls_of_handings (with_forms one.forms one.store account) more handed.1

  -- what was done since lines were last handed on, as a call that has acknowledged nothing
  abbrev pub call_since : (account : Account D) (store : StoreView D R) → AreUnderWay functions state account store → Call D
  call_since account store since = record { disk = store.disk; taken = since.taken; acknowledged = 0; left = store.world }

-- What is said of these calls, from the world and the disk of an account on.
pub record AreCalls (functions : Functions) {D : Type 0} (state : D → State) (account : Account D) (calls : List (Call D)) : Type 0 where
  pub run : Run functions state account.disk (Some account.now) calls
  pub together : AreTogether functions state account.disk (Some account.now) calls
  -- wherever they are parted
  pub headline : (earlier later : List (Call D)) → calls ≡ earlier ++ later → Headline functions state account.disk account.now earlier later
  pub whole : (earlier later : List (Call D)) → calls ≡ earlier ++ later → InWholeCalls functions state account.disk account.now earlier later
  -- as events of a history
  pub happened : EventsHappened functions state account.disk (Some account.now) (map called calls)
