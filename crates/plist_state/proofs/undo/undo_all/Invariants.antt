use Rattle.std.proofs.Common.{◌≡◌, length}
use Rattle.plist_state.specs.Views.{rest_of}
use Rattle.plist_state.specs.RowIndexes.{AreRowIndexes}
use Rattle.plist_state.specs.KeptRows.{IsWider}
use Rattle.plist_state.specs.Undoing.{all_undone}
use Rattle.plist_state.specs.Journal.{LeadsBack}
use Rattle.plist_state.proofs.undo.undo_all.Given as goal

-- the changes that are left lead back to the same rest
abbrev pub invariant-loop-note : goal.invariant-loop-note
invariant-loop-note l =
    (all_undone l.notes.items (rest_of l.stored) ≡ all_undone l.initial.notes.items (rest_of l.initial.stored))
    × LeadsBack l.notes.items (rest_of l.stored) l.stored.properties.items
    × IsWider l.initial.stored.properties.items l.stored.properties.items
    × AreRowIndexes l.stored.properties.items l.stored.indexes.entries

abbrev pub decreases-loop-note : goal.decreases-loop-note
decreases-loop-note l = length l.notes.items
