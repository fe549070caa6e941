use Rattle.std.proofs.Common.{◌≡◌, arith}
use Rattle.device_disk.proofs.Telling.{told_after_write, written_told}
use Rattle.device_disk.proofs.disk.DeviceDiskDisk.write_at.Goals as goal

pub invariant_of-self-in-Ok : goal.invariant_of-self-in-Ok
invariant_of-self-in-Ok g c =
    let calls = g.V.Device.calls in
    let was = c.self.inside in
    let none : was.failed ≡ 0 = omega (arith, c.if-self-gt0.false) in
    told_after_write was.noted c.write_at.new.self c.end.new.noted c.args.half c.args.at c.args.bytes.now was.failed c.end.new.failed
    (calls was.device) (calls c.write_whole-made.new.device) c.write_whole-made.result c.end.result none
    c.in-Ok.ensures.disk.counts.mixes c.end.ensures.mixes c.in-Ok.ensures.asks.ok c.in-Ok.ensures.disk.counts.failures c.write_whole-made.ensures c.end.ensures.same c.end.ensures.noted c.end.ensures.failed
    c.self.invariant

pub returns-in-Ok-clause-disk : goal.returns-in-Ok-clause-disk
returns-in-Ok-clause-disk g c =
    let was = c.self.inside in
    rw (← c.self.view_is)
    (written_told was.noted c.write_at.new.self c.end.new.noted c.args.half c.args.at c.args.bytes.now was.failed c.end.new.failed c.in-Ok.field-0 c.end.result
    c.in-Ok.ensures.disk c.end.ensures.mixes c.end.ensures.noted c.end.ensures.failed)
