use Rattle.std.proofs.Common.{take}
use Rattle.std.specs.List.{flat_map}
use Rattle.lisp_object.specs.Datum.{object_of}
use Rattle.package_table.specs.Numbers.{table_now}
use Rattle.package_table.specs.Symbols.{symbols}
use Rattle.forgotten_names.specs.Marks.{AddsMarks}
use Rattle.forgotten_names.proofs.marks.+marking.Given as goal

-- those of the items so far
abbrev pub invariant-mark_items-loop-item : goal.invariant-mark_items-loop-item
invariant-mark_items-loop-item l =
    AddsMarks (table_now l.packages) l.initial.marks.items l.marks.items (flat_map (λ d. symbols (object_of d)) (take l.item-index l.items))
