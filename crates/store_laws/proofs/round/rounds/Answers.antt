use Rattle.std.proofs.Common.{refl}
use Rattle.store_laws.specs.Rounds.{place_at}
use Rattle.store_laws.proofs.NoneOver.{none_over}
use Rattle.store_laws.proofs.RoundsDone.{at_one_moment, come_after}
use Rattle.store_laws.proofs.round.rounds.Goals as goal

pub returns-clause-in_between : goal.returns-clause-in_between
returns-clause-in_between g c = λ functions old world last steps known honest keeps are.
    come_after functions g.D.Disk.state steps old (place_at last world) (record { world = known; position = refl; honest = honest; keeps = keeps }) are

pub returns-clause-any_moment : goal.returns-clause-any_moment
returns-clause-any_moment g c = λ functions old world now last steps step image known honest keeps are is left means.
    at_one_moment functions g.D.Disk.state g.met.D.Disk.sound old (place_at last world) (record { world = known; position = refl; honest = honest; keeps = keeps }) steps are step is image now left means

pub returns-clause-none_over : goal.returns-clause-none_over
returns-clause-none_over g c = λ functions first rounds number written. none_over functions first rounds number written
