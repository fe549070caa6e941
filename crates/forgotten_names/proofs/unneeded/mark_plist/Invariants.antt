use Rattle.std.proofs.Common.{take}
use Rattle.package_table.specs.Numbers.{table_now}
use Rattle.forgotten_names.specs.Marks.{AddsMarks}
use Rattle.forgotten_names.specs.NeededSymbols.{plist_symbols}
use Rattle.forgotten_names.proofs.unneeded.mark_plist.Given as goal

-- those of the properties so far
abbrev pub invariant-loop-index : goal.invariant-loop-index
invariant-loop-index l = AddsMarks (table_now l.packages) l.fn.marks.items l.marks.items (plist_symbols (take l.index l.list))
