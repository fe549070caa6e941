use Rattle.std.proofs.Common.{◌≡◌, min, take}
use Rattle.std.specs.List.{sum_by}
use Rattle.plist_state.specs.Readers.{borrowed_symbols}
use Rattle.store_reports.specs.PropertyCounts.{taken_properties}
use Rattle.store_reports.specs.Figures.{told_number}
use Rattle.store_reports.proofs.counting.tally_owners.Given as goal

-- those of the symbols so far
abbrev pub invariant-loop-owner : goal.invariant-loop-owner
invariant-loop-owner l =
    (l.tally.properties ≡ told_number (sum_by (taken_properties l.selection l.world.0) (take l.owner-index (borrowed_symbols l.owners))))
    × (l.tally.symbols ≡ told_number (sum_by (λ x. min (taken_properties l.selection l.world.0 x) 1) (take l.owner-index (borrowed_symbols l.owners))))
