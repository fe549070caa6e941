use Rattle.std.proofs.Common.{◌≡◌}
use Rattle.device_tests.proofs.script.run.Given as goal

-- no step has failed
abbrev pub invariant-loop-number : goal.invariant-loop-number
invariant-loop-number g l = (g.D.Disk.state l.disk).failures ≡ 0
