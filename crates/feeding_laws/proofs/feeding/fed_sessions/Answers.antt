use Rattle.feeding_laws.proofs.Served.{answered_again}
use Rattle.feeding_laws.proofs.feeding.fed_sessions.Goals as goal

pub returns : goal.returns
returns g c = λ functions old new last position first now frames left held written feeds told each serves.
    answered_again functions g.D.Disk.state c.bytes_are_one_list.ensures old new last position first now frames left held written feeds told each serves
