use Rattle.std.proofs.Common.{◌≡◌, length, take}
use Rattle.std.specs.List.{sum_by}
use Rattle.plist_state.specs.Changes.{plist}
use Rattle.plist_state.specs.Readers.{borrowed_symbols}
use Rattle.store_reports.specs.Figures.{told_number}
use Rattle.store_reports.proofs.figures.property_count.Given as goal

-- the properties of the symbols so far
abbrev pub invariant-loop-owner : goal.invariant-loop-owner
invariant-loop-owner l = l.count ≡ told_number (sum_by (λ symbol. length (plist l.world.0 symbol)) (take l.owner-index (borrowed_symbols l.owners)))
