use Rattle.std.proofs.Common.{◌≡◌, drop}
use Rattle.disk_trait.specs.Crash.{left_by_calls}
use Rattle.disk_trait.proofs.crash.left_of.Given as goal

abbrev pub invariant-calls : goal.invariant-calls
invariant-calls l = left_by_calls l.kind l.half (drop l.call-index l.calls) l.file.items l.left.items ≡ left_by_calls l.kind l.half l.calls l.start l.start
