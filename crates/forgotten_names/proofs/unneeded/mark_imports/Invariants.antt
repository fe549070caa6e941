use Rattle.std.proofs.Common.{map, take}
use Rattle.package_table.specs.Numbers.{table_now}
use Rattle.forgotten_names.specs.Marks.{AddsMarks}
use Rattle.forgotten_names.proofs.unneeded.mark_imports.Given as goal

-- those of the names so far
abbrev pub invariant-loop-name : goal.invariant-loop-name
invariant-loop-name l = AddsMarks (table_now l.packages) l.fn.marks.items l.marks.items (map (λ r. (r.1, r.0)) (take l.name-index l.imported))
