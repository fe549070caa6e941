use Rattle.damage_laws.proofs.NearHalves.{halves_agree, last_hides, mark_hides}
use Rattle.damage_laws.proofs.damage.Goals as goal

pub returns-clause-agree : goal.returns-clause-agree
returns-clause-agree c = halves_agree

pub returns-clause-hides : goal.returns-clause-hides
returns-clause-hides c = mark_hides

pub returns-clause-hides_last : goal.returns-clause-hides_last
returns-clause-hides_last c = last_hides
