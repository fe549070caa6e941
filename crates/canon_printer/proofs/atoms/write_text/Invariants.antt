use Rattle.std.proofs.Common.{◌≡◌, ◌++◌, take}
use Rattle.canon_printer.specs.Names.{with_backslashes}
use Rattle.canon_printer.specs.Written.{is_escaped_in_text}
use Rattle.canon_printer.proofs.atoms.write_text.Given as goal

abbrev pub invariant-loop-c : goal.invariant-loop-c
invariant-loop-c l = l.text.items ≡ l.initial.text.items ++ with_backslashes is_escaped_in_text (take l.c-index l.bytes)
