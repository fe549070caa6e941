use Rattle.std.proofs.Common.{◌≡◌, ◌++◌, take}
use Rattle.store_reports.specs.EscapedText.{shown_for_terminal}
use Rattle.store_reports.proofs.escaped.push_escaped.Given as goal

abbrev pub invariant-loop-byte : goal.invariant-loop-byte
invariant-loop-byte l = l.line.items ≡ l.fn.line.items ++ shown_for_terminal (take l.byte-index l.text)
