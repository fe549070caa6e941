use Rattle.store_laws.proofs.WholeCalls.{in_whole_calls}
use Rattle.store_laws.proofs.batch.batches.Goals as goal

pub returns : goal.returns
returns g c = λ functions start world earlier later honest keeps run together.
    in_whole_calls functions g.D.Disk.state g.met.D.Disk.sound earlier later start world honest keeps run together
