use Rattle.std.proofs.Common.{◌≡◌, ◌++◌, take}
use Rattle.canon_printer.specs.Names.{with_backslashes}
use Rattle.canon_printer.specs.Written.{is_escaped_in_text}
use Rattle.client_table.proofs.texts.push_escaped.Given as goal

abbrev pub invariant-loop-byte : goal.invariant-loop-byte
invariant-loop-byte l = l.text.items ≡ l.initial.text.items ++ with_backslashes is_escaped_in_text (take l.byte-index l.bytes)
