use Rattle.std.proofs.Common.{◌≡◌, ◌++◌, drop}
use Rattle.disk_trait.specs.Crash.{scattered_bytes}
use Rattle.disk_trait.proofs.crash.merged.Given as goal

abbrev pub invariant-bytes : goal.invariant-bytes
invariant-bytes l = (l.place ≡ l.byte-index) × (l.next.items ++ scattered_bytes l.share l.place (drop l.byte-index l.bytes) l.file ≡ scattered_bytes l.share 0 l.bytes l.file)
