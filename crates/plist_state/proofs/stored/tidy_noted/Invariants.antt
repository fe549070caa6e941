use Rattle.std.proofs.Common.{◌≡◌}
use Rattle.plist_state.specs.Views.{rest_of}
use Rattle.plist_state.specs.RowIndexes.{AreRowIndexes}
use Rattle.plist_state.specs.KeptRows.{IsWider}
use Rattle.plist_state.proofs.stored.tidy_noted.Given as goal

-- the same properties, in rows with as much memory
abbrev pub invariant-loop-note : goal.invariant-loop-note
invariant-loop-note l =
    (rest_of l.stored ≡ rest_of l.initial.stored)
    × IsWider l.initial.stored.properties.items l.stored.properties.items
    × AreRowIndexes l.stored.properties.items l.stored.indexes.entries
