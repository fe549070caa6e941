use Rattle.std.proofs.Common.{map, take}
use Rattle.package_table.specs.Numbers.{table_now}
use Rattle.plist_state.specs.Readers.{borrowed_symbols}
use Rattle.forgotten_names.specs.Marks.{AddsMarks}
use Rattle.forgotten_names.proofs.marks.mark_all.Given as goal

-- the symbols so far
abbrev pub invariant-loop-symbol : goal.invariant-loop-symbol
invariant-loop-symbol l = AddsMarks (table_now l.packages) l.fn.marks.items l.marks.items (borrowed_symbols (take l.symbol-index l.symbols))
