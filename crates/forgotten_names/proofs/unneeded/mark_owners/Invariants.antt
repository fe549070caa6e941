use Rattle.std.proofs.Common.{◌∷◌, take}
use Rattle.std.specs.List.{flat_map}
use Rattle.package_table.specs.Numbers.{table_now}
use Rattle.plist_state.specs.Changes.{plist}
use Rattle.plist_state.specs.Readers.{borrowed_symbol}
use Rattle.forgotten_names.specs.Marks.{AddsMarks}
use Rattle.forgotten_names.specs.NeededSymbols.{plist_symbols}
use Rattle.forgotten_names.proofs.unneeded.mark_owners.Given as goal

-- those of the symbols so far
abbrev pub invariant-loop-owner : goal.invariant-loop-owner
invariant-loop-owner l =
    AddsMarks (table_now l.packages) l.fn.marks.items l.marks.items
    (flat_map (λ o. borrowed_symbol o ∷ plist_symbols (plist l.world.0 (borrowed_symbol o))) (take l.owner-index l.owners))
