use Rattle.std.proofs.Common.{◌≡◌, ◌++◌, take}
use Rattle.canon_printer.specs.Names.{with_backslashes, is_escaped_in_bars}
use Rattle.world_forms.proofs.texts.push_barred.Given as goal

-- the characters so far
abbrev pub invariant-loop-byte : goal.invariant-loop-byte
invariant-loop-byte l = l.text.items ≡ l.initial.text.items ++ with_backslashes is_escaped_in_bars (take l.byte-index l.name)
