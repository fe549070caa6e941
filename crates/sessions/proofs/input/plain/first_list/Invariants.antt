use Rattle.std.proofs.Common.{◌≡◌}
use Rattle.sessions.proofs.input.plain.first_list.Given as goal

abbrev pub invariant-bytes : goal.invariant-bytes
invariant-bytes l = l.count ≡ l.byte-index
