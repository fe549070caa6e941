use Rattle.std.proofs.Common.{◌≡◌, take}
use Rattle.std.specs.List.{sum_by}
use Rattle.package_table.specs.Readers.{names_of}
use Rattle.store_reports.specs.PropertyCounts.{printed_properties, printed_symbols}
use Rattle.store_reports.specs.Figures.{told_number}
use Rattle.store_reports.proofs.counting.tally_named.Given as goal

-- those of the names so far
abbrev pub invariant-loop-name : goal.invariant-loop-name
invariant-loop-name l =
    (l.tally.properties
    ≡ told_number (sum_by (λ name. printed_properties l.asked.selection.now l.world.0 l.asked.symbol.now (l.home, name)) (take l.name-index (names_of l.names))))
    × (l.tally.symbols
    ≡ told_number (sum_by (λ name. printed_symbols l.asked.selection.now l.world.0 l.asked.symbol.now (l.home, name)) (take l.name-index (names_of l.names))))
