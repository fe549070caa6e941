-- What the ledger of a session is, and what is always true of it.
use Rattle.std.specs.Prelude.{◌≡◌, ℕ, List, [], ◌∷◌, Option, Some, refl}
use Rattle.std.specs.Coded.{Coded, code_by, coded×, coded_ℕ, coded_list}
use Rattle.std.specs.Option.{option_map}
use Rattle.disk_trait.specs.Disk.{State}
use Rattle.sessions.specs.Account.{Account, with_forms}
use Rattle.prevalence_store.specs.calls.Store.{StoreView, store_view_code}
use Rattle.store_laws.specs.SessionLines.{account_after}
use Rattle.session_ledger.specs.OutgoingLines.{GoesOut, handings_of}
use Rattle.user_macros.specs.Functions.{Functions}

-- the output, the name by which proofs know where it is, and of how many forms lines were handed to it, one time after the other, with the
-- store as it was then
pub record LedgerView (D R O : Type 0) : Type 0 where
  pub output : O
  pub name : ℕ
  pub past : List (StoreView D R × ℕ)

-- a ledger is told apart by its parts
abbrev pub ledger_code : {D R O : Type 0} → Coded D → Coded R → Coded O → Coded (LedgerView D R O)
ledger_code {D} {R} {O} disk macros output =
    code_by (O × (ℕ × List (StoreView D R × ℕ)))
    (coded× output (coded× coded_ℕ (coded_list (coded× (store_view_code disk macros) coded_ℕ))))
    (λ l. (l.output, (l.name, l.past)))
    (λ p. record { output = p.0; name = p.1.0; past = p.1.1 })
    (λ _. refl)

-- the account after lines of so many forms were handed on, one time after the other
abbrev pub account_past : {D R : Type 0} → Account D → List (StoreView D R × ℕ) → Account D
account_past account [] = account
account_past account (one ∷ more) = account_past (with_forms one.1 one.0 account) more

-- the account after these steps; None, if none was kept at the beginning
abbrev pub account_from : {D R : Type 0} → Option (Account D) → List (StoreView D R × ℕ) → Option (Account D)
account_from {D} first past = option_map (λ (account : Account D). account_past account past) first

-- The account with which it began, with that name in place of a number of forms, which is 0 there. A session leaves it as it was
-- (`Recipient`), so after a session the output is where it was.
abbrev pub named_first : {D : Type 0} → Option (Account D) → ℕ → Option (Account D)
named_first {D} first name = option_map (λ (account : Account D). record account { forms = name }) first

-- an account that the output keeps itself is the same as the one of the ledger
abbrev pub Agrees : {D : Type 0} → (theirs ours : Option (Account D)) → Type 0
Agrees {D} theirs ours = (kept : Account D) → theirs ≡ Some kept → ours ≡ Some kept

-- the account comes of lines that were handed on, each as a recipient asks, and they are what the output got
pub record IsAccountOfLines (functions : Functions) {D R : Type 0} (state : D → State) (first : Account D) (held written : Option (List ℕ)) (past : List (StoreView D R × ℕ)) : Type 0 where
  pub out : GoesOut functions R state first held written
  pub account_is : account_after first (handings_of out.sent) ≡ account_past first past

-- the account of a session stands at each of these steps
abbrev pub IsAccountOf : (functions : Functions) {D R : Type 0} (state : D → State) → Option (Account D) → (held written : Option (List ℕ)) → List (StoreView D R × ℕ) → Type 0
IsAccountOf functions {D} state first held written past = (begun : Account D) → first ≡ Some begun → IsAccountOfLines functions state begun held written past
