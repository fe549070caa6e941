use Rattle.std.proofs.Common.{◌≡◌, map}
use Rattle.std.specs.List.{range_with_len}
use Rattle.readtable_core.specs.Tables.{standard_entry}
use Rattle.readtable_core.proofs.table.Readtable.standard.Given as goal

abbrev pub invariant-loop-c : goal.invariant-loop-c
invariant-loop-c l = l.entries.items ≡ map standard_entry (range_with_len 0 l.c)
