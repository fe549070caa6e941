-- What went out of a session, one time after the other.
use Rattle.std.specs.Prelude.{◌≡◌, ℕ, List, [], ◌∷◌, ◌++◌, take, Option}
use Rattle.disk_trait.specs.Disk.{State}
use Rattle.prevalence_store.specs.Theorem.{Call}
use Rattle.sessions.specs.Account.{Account, AreUnderWay}
use Rattle.prevalence_store.specs.calls.Store.{StoreView}
use Rattle.sessions.specs.Streams.{Writes}
use Rattle.store_laws.specs.SessionLines.{AreHanded, Handing, account_after, call_since, calls_of_handings}
use Rattle.user_macros.specs.Functions.{Functions}

-- Lines that were handed to the output, and the part of them, from their front, that went out: all of them, if the output did not fail.
pub record Outgoing (D R : Type 0) : Type 0 where
  pub handing : Handing D R
  pub out : List ℕ
  pub rest : List ℕ
  pub parts : handing.lines ≡ out ++ rest

-- what was handed to the output, one time after the other, whether it went out or not
abbrev pub handings_of : {D R : Type 0} → List (Outgoing D R) → List (Handing D R)
handings_of [] = []
handings_of (one ∷ more) = one.handing ∷ handings_of more

-- all bytes that went out
abbrev pub out_of : {D R : Type 0} → List (Outgoing D R) → List ℕ
out_of [] = []
out_of (one ∷ more) = one.out ++ out_of more

-- The disk as lines had been handed on so many times; before the first time the one with which the session began.
abbrev pub disk_after_lines : {D R : Type 0} → Account D → List (Outgoing D R) → ℕ → D
disk_after_lines first sent k = (account_after first (take k (handings_of sent))).disk

-- This is all that the output got in a session which began with this account, and each time its lines were as a recipient asks: the next ones
-- of the session, of forms that are all stored.
pub record GoesOut (functions : Functions) {D : Type 0} (R : Type 0) (state : D → State) (first : Account D) (held written : Option (List ℕ)) : Type 0 where
  pub sent : List (Outgoing D R)
  pub handed : AreHanded functions state first (handings_of sent)
  pub output : Writes held written (out_of sent)

-- What went out of a session that left this store. What was done since the last time has acknowledged nothing.
pub record WentOut (functions : Functions) {D R : Type 0} (state : D → State) (first : Account D) (closed : StoreView D R) (held written : Option (List ℕ)) : Type 0 where
  pub out : GoesOut functions R state first held written
  pub since : AreUnderWay functions state (account_after first (handings_of out.sent)) closed

-- the session as calls of the store: one for each time that lines were handed on, and a last one
abbrev pub calls_in : (functions : Functions) {D R : Type 0} (state : D → State) (first : Account D) (closed : StoreView D R) {held written : Option (List ℕ)}
    → WentOut functions state first closed held written → List (Call D)
calls_in functions state first closed went =
    calls_of_handings functions state first (handings_of went.out.sent) went.out.handed
    ++ call_since functions state (account_after first (handings_of went.out.sent)) closed went.since ∷ []
