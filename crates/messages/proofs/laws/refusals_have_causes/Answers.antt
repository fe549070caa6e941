use Rattle.prevalence_store.proofs.meaning.Numbered.{acceptance_is_numbered}
use Rattle.messages.proofs.ByNumber.{by_number}
use Rattle.messages.proofs.laws.refusals_have_causes.Goals as goal

pub returns : goal.returns
returns g c = λ functions old new world last requests number refused.
    by_number functions (acceptance_is_numbered functions) g.D.Disk.state old new world last requests number refused
