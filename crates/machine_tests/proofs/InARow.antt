-- Sessions in a row.
use Rattle.std.proofs.Common.{IsTrue, List, [], ◌∷◌, sym, subst}
use Rattle.disk_trait.specs.Disk.{IsHonest, State}
use Rattle.sessions.specs.Account.{Account, with_forms}
use Rattle.store_laws.specs.SessionLines.{AreHanded, Handing, account_after}
use Rattle.user_macros.specs.Functions.{Functions}

-- the disk with which lines were handed on last is as honest as the one with which the session began
pub honest_after : (functions : Functions) {D R : Type 0} (state : D → State) (handings : List (Handing D R)) (account : Account D) → AreHanded functions state account handings
    → IsHonest (state account.disk) → IsHonest (state (account_after account handings).disk)
honest_after functions state [] account handed honest = honest
honest_after functions state (one ∷ more) account (stored, rest) honest =
    honest_after functions state more (with_forms one.forms one.store account) rest (subst IsTrue (sym (stored.survives honest).honest) honest)
