use Rattle.disk_trait.specs.Disk.{Image}
use Rattle.disk_trait.specs.Memory.{state_of}
use Rattle.disk_trait.proofs.Left.{image_may}
use Rattle.disk_trait.proofs.memory.MemoryDisk.crash.Goals as goal

pub returns-in-Ok-clause-may_leave : goal.returns-in-Ok-clause-may_leave
returns-in-Ok-clause-may_leave c =
    let m = c.args.self.now in
    let start : Image = record { a = m.start_a.items; b = m.start_b.items } in
    image_may c.args.kind start m.calls.items (state_of c.try_crash.new.self).reads c.try_crash.ensures.kind m.began m.wrote c.in-Ok.ensures.left
