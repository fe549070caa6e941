use Rattle.std.proofs.Common.{◌≡◌, ◌<◌, ◌++◌, List, length}
use Rattle.plist_state.specs.Views.{NumberedRest, rest_of}
use Rattle.plist_state.specs.RowIndexes.{AreRowIndexes}
use Rattle.plist_state.specs.KeptRows.{IsWider}
use Rattle.plist_state.specs.Undoing.{rests_at}
use Rattle.plist_state.specs.Journal.{marks_of, IsJournal}
use Rattle.plist_state.proofs.undo.undo_to.Given as goal

-- the marks that are left lead to the first of the rests
abbrev pub invariant-loop-newest : goal.invariant-loop-newest
invariant-loop-newest l =
    (rest : List NumberedRest) × (rests_at (marks_of l.initial.marks.items) (rest_of l.initial.stored) ≡ rests_at (marks_of l.marks.items) (rest_of l.stored) ++ rest)
    × (l.mark < length l.marks.items)
    × IsJournal (marks_of l.marks.items) (rest_of l.stored) l.stored.properties.items
    × IsWider l.initial.stored.properties.items l.stored.properties.items
    × AreRowIndexes l.stored.properties.items l.stored.indexes.entries

abbrev pub decreases-loop-newest : goal.decreases-loop-newest
decreases-loop-newest l = length l.marks.items
