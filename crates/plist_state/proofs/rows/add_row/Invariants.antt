use Rattle.std.proofs.Common.{◌+◌, ◌-◌, vec_len}
use Rattle.plist_state.proofs.EmptyRows.{IsAlike}
use Rattle.plist_state.proofs.rows.add_row.Given as goal

-- only empty rows were added
abbrev pub invariant-loop-rows : goal.invariant-loop-rows
invariant-loop-rows l = IsAlike l.initial.rows.items l.rows.items

abbrev pub decreases-loop-rows : goal.decreases-loop-rows
decreases-loop-rows l = (l.number + 1) - vec_len l.rows
