use Rattle.std.proofs.Common.{◌≡◌, length, take}
use Rattle.std.specs.List.{sum_by}
use Rattle.package_table.specs.Readers.{names_of, own_names}
use Rattle.store_reports.specs.Figures.{told_number}
use Rattle.store_reports.proofs.figures.symbol_count.Given as goal

-- the symbols of the packages so far
abbrev pub invariant-loop-name : goal.invariant-loop-name
invariant-loop-name l = l.count ≡ told_number (sum_by (λ name. length (own_names l.packages.0 name)) (take l.name-index (names_of l.name-items)))
