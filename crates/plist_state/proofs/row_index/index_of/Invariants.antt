use Rattle.std.proofs.Common.{◌<◌, ◌-◌, ℕ, take}
use Rattle.plist_state.specs.RowIndexes.{orders, indexed_order, IsRowIndex}
use Rattle.plist_state.proofs.row_index.index_of.Given as goal

-- the index has the properties passed, whose orders are below the next
abbrev pub invariant-loop-place : goal.invariant-loop-place
invariant-loop-place l =
    IsRowIndex l.index.entries (take l.place (orders l.row.items)) × ((k : ℕ) → k < l.place → (indexed_order (orders l.row.items) k).1 < l.next)

abbrev pub decreases-loop-place : goal.decreases-loop-place
decreases-loop-place l = l.count - l.place
