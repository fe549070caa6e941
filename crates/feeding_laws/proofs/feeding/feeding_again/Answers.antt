use Rattle.std.proofs.Common.{refl}
use Rattle.store_laws.specs.Rounds.{place_at}
use Rattle.feeding_laws.proofs.Handed.{account_further, handed_further, placed_after, while_ended, while_stored}
use Rattle.feeding_laws.proofs.feeding.feeding_again.Goals as goal

pub returns-clause-further : goal.returns-clause-further
returns-clause-further g c = λ functions account handings last handed stored unnamed.
    (handed_further functions g.D.Disk.state handings account last handed stored unnamed, account_further functions g.D.Disk.state handings account last)

pub returns-clause-in_rounds : goal.returns-clause-in_rounds
returns-clause-in_rounds g c = λ functions account handings handed.
    placed_after functions g.D.Disk.state handings (place_at account.last account.now) account (record { world = refl; last = refl }) handed

pub returns-clause-while_stored : goal.returns-clause-while_stored
returns-clause-while_stored g c = λ functions account handings one more image now first honest keeps handed stored unnamed later left means.
    while_stored functions g.D.Disk.state account handings more later image now first honest keeps handed one unnamed stored left means

pub returns-clause-while_ended : goal.returns-clause-while_ended
returns-clause-while_ended g c = λ functions account handings store more image now first honest keeps handed since unnamed later left means.
    while_ended functions g.D.Disk.state account handings more later image now first honest keeps handed store since unnamed left means
