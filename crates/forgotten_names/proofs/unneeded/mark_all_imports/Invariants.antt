use Rattle.std.proofs.Common.{map, take}
use Rattle.std.specs.List.{flat_map}
use Rattle.package_table.specs.Numbers.{table_now}
use Rattle.package_table.specs.Readers.{imports}
use Rattle.forgotten_names.specs.Marks.{AddsMarks}
use Rattle.forgotten_names.proofs.unneeded.mark_all_imports.Given as goal

-- what the packages so far import
abbrev pub invariant-loop-owner : goal.invariant-loop-owner
invariant-loop-owner l =
    AddsMarks (table_now l.packages) l.fn.marks.items l.marks.items
    (flat_map (λ p. map (λ r. (r.1, r.0)) (imports l.packages.0 p.now)) (take l.owner-index l.owners))
