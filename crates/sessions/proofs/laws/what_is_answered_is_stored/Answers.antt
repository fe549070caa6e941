use Rattle.std.proofs.Common.{IsTrue, refl, ap, subst, sym, unwrap_or}
use Rattle.prevalence_store.specs.meaning.Files.{MeansWorld}
use Rattle.sessions.proofs.laws.what_is_answered_is_stored.Goals as goal

pub returns-clause-is_call : goal.returns-clause-is_call
returns-clause-is_call g c = λ functions account store lines forms honest stored.
    let survives = stored.survives honest in
    ((survives, tt), ap (λ o. unwrap_or o account.now) stored.left, subst IsTrue (sym survives.honest) honest)

pub returns-clause-opened : goal.returns-clause-opened
returns-clause-opened g c = λ functions account store lines forms crashed opened image now honest stored may reads reopens.
    let meant = (stored.survives honest).kept stored.far.world refl image may in
    sym (reopens.only stored.far.world (subst (λ i. MeansWorld functions i stored.far.world) (sym reads) meant))
