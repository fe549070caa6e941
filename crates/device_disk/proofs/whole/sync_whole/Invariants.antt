use Rattle.std.proofs.Common.{◌≡◌}
use Rattle.device_disk.proofs.whole.sync_whole.Given as goal

-- nothing was done so far
abbrev pub invariant-tries : goal.invariant-tries
invariant-tries g l = g.V.Device.calls l.device ≡ g.V.Device.calls l.fn.device
