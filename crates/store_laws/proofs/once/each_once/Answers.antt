use Rattle.store_laws.proofs.MessagesDone.{after_all, at_any_moment}
use Rattle.store_laws.proofs.once.each_once.Goals as goal

pub returns-clause-any_moment : goal.returns-clause-any_moment
returns-clause-any_moment g c = λ functions old new world now last requests result image known honest keeps answers left means.
    at_any_moment functions g.D.Disk.state g.met.D.Disk.sound old new world known honest keeps last requests result image now answers left means

pub returns-clause-afterwards : goal.returns-clause-afterwards
returns-clause-afterwards g c = λ functions old new world now last requests replies image known honest keeps answers left means.
    after_all functions g.D.Disk.state g.met.D.Disk.sound old new world known honest keeps last requests replies image now answers left means
