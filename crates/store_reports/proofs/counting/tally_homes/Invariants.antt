use Rattle.std.proofs.Common.{◌≡◌, take}
use Rattle.std.specs.List.{sum_by}
use Rattle.package_table.specs.Readers.{names_of}
use Rattle.store_reports.specs.PropertyCounts.{printed_properties, printed_symbols, sum_at_home}
use Rattle.store_reports.specs.Figures.{told_number}
use Rattle.store_reports.proofs.counting.tally_homes.Given as goal

-- those of the packages so far
abbrev pub invariant-loop-home : goal.invariant-loop-home
invariant-loop-home l =
    (l.tally.properties
    ≡ told_number (sum_by (sum_at_home l.world.0 (printed_properties l.asked.selection.now l.world.0 l.asked.symbol.now)) (take l.home-index (names_of l.homes))))
    × (l.tally.symbols
    ≡ told_number (sum_by (sum_at_home l.world.0 (printed_symbols l.asked.selection.now l.world.0 l.asked.symbol.now)) (take l.home-index (names_of l.homes))))
