use Rattle.std.proofs.Common.{refl, sym, subst, arith}
use Rattle.deferred_disk.specs.DiskRequests.{first_calls}
use Rattle.device_disk.specs.DeviceFiles.{IsUnfailed}
use Rattle.device_disk.proofs.Telling.{told_so, tells_first}
use Rattle.device_disk.proofs.disk.DeviceDisk.open_by.Goals as goal

pub invariant_of-result : goal.invariant_of-result
invariant_of-result g c =
    let calls = g.V.Device.calls in
    let a = c.in_ok-a.a.items in
    let b = c.in_ok-b.b.items in
    told_so c.args.mixes c.holding.result (first_calls a b) 0 0 (calls c.read_file-2.new.device) c.holding.ensures.mixes c.holding.ensures.calls refl (omega (arith, c.holding.ensures.failures))
    (tells_first c.args.mixes a b (calls c.args.device) (calls c.sync_file.new.device) (calls c.sync_file-2.new.device) (calls c.read_file.new.device) (calls c.read_file-2.new.device)
    (subst IsUnfailed (sym c.requires) tt) c.in_ok-sync_file.ensures c.in_ok-sync_file-2.ensures c.in_ok-a.ensures c.in_ok-b.ensures)
