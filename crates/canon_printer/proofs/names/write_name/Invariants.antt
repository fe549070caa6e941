use Rattle.std.proofs.Common.{◌≡◌, ◌++◌, take}
use Rattle.canon_printer.specs.Names.{with_backslashes, is_escaped_in_bars}
use Rattle.canon_printer.proofs.names.write_name.Given as goal

abbrev pub invariant-loop-c : goal.invariant-loop-c
invariant-loop-c l = l.text.items ≡ l.initial.text.items ++ with_backslashes is_escaped_in_bars (take l.c-index l.name)
