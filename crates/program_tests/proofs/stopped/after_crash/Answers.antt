use Rattle.std.proofs.Common.{refl, arith}
use Rattle.disk_trait.specs.Memory.{state_of}
use Rattle.program_tests.proofs.stopped.after_crash.Goals as goal

pub returns-in-Ok-clause-left : goal.returns-in-Ok-clause-left
returns-in-Ok-clause-left c =
    let sound = c.stands.ensures refl in
    sound.counts_now (state_of c.args.disk).moment (state_of c.crash.new.self).reads (omega arith) c.in-Ok.ensures.may_leave
