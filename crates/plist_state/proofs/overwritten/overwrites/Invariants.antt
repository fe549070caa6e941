use Rattle.std.proofs.Common.{◌≡◌, ◌≤◌, Some, length, drop}
use Rattle.plist_state.specs.OverwrittenValues.{before_notes}
use Rattle.plist_state.proofs.overwritten.overwrites.Given as goal

-- where the property was before the notes that were looked at
abbrev pub invariant-loop-left : goal.invariant-loop-left
invariant-loop-left l =
    (l.left ≤ length l.notes) × (before_notes l.number (drop l.left l.notes) l.initial.place ≡ Some l.place)

abbrev pub decreases-loop-left : goal.decreases-loop-left
decreases-loop-left l = l.left
