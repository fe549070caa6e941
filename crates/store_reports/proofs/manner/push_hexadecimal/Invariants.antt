use Rattle.std.proofs.Common.{◌≡◌, ◌++◌, take}
use Rattle.store_reports.specs.HalfManners.{hexadecimal_text}
use Rattle.store_reports.proofs.manner.push_hexadecimal.Given as goal

abbrev pub invariant-loop-byte : goal.invariant-loop-byte
invariant-loop-byte l = l.text.items ≡ l.fn.text.items ++ hexadecimal_text (take l.byte-index l.bytes)
