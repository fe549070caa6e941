use Rattle.program_tests.proofs.stopped.stands.Goals as goal

pub returns : goal.returns
returns g c = λ honest. g.met.D.Disk.sound c.args.disk.now honest
