-- The account that the recipient of a session, or of sessions in a row, keeps.
use Rattle.std.specs.Prelude.{◌≡◌, ℕ, List, [], ◌∷◌, Option, Some}
use Rattle.disk_trait.specs.Disk.{State, IsHonest}
use Rattle.plist_state.specs.State.{WorldState}
use Rattle.prevalence_store.specs.Theorem.{Call, Run}
use Rattle.sessions.specs.Account.{Account, AreUnderWay, first_account}
use Rattle.prevalence_store.specs.calls.Store.{StoreView}
use Rattle.session_words.specs.declared.mode.Mode.{Mode}
use Rattle.user_macros.specs.Functions.{Functions}

-- If there is an account, it is that of a session which begins over this store, in this mode, and with what its reader has.
abbrev pub BeginsAccount : {D R : Type 0} → Mode → Option (List ℕ) → StoreView D R → Option (Account D) → Type 0
BeginsAccount {D} mode had store account =
    (world : WorldState) → store.world ≡ Some world → (kept : Account D) → account ≡ Some kept → kept ≡ first_account world mode had store.disk

-- What is done over this store acknowledges nothing more than the account has, if there is one.
abbrev pub EndsAccount : Functions → {D R : Type 0} → (D → State) → StoreView D R → Option (Account D) → Type 0
EndsAccount functions {D} state store account = (kept : Account D) → account ≡ Some kept → AreUnderWay functions state kept store

-- The account of the recipient, if it keeps one, is of sessions in a row, from the opening of the store to its end: so it was as the
-- first of them began, and so it is after the last.
pub record IsAccountOfSessions (functions : Functions) {D R : Type 0} (state : D → State) (mode : Mode) (had : Option (List ℕ))
    (opened closed : StoreView D R) (first account : Option (Account D)) : Type 0 where
  pub begins : BeginsAccount mode had opened first
  pub ends : EndsAccount functions state closed account

-- From one account on to the next there is one call, as the theorem has calls in a row, and it acknowledges none of its forms.
pub record AccountGoesOn (functions : Functions) {D : Type 0} (state : D → State) (account next : Account D) : Type 0 where
  pub call : Call D
  pub run : Run functions state account.disk (Some account.now) (call ∷ [])
  pub acknowledges : call.acknowledged ≡ 0
  pub disk : next.disk ≡ call.disk
  pub left : call.left ≡ Some next.now
  pub honest : IsHonest (state next.disk)
