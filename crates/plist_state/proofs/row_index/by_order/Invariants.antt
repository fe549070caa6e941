use Rattle.std.proofs.Common.{◌<◌, ◌≤◌, ◌-◌, ℕ, length}
use Rattle.plist_state.specs.RowIndexes.{orders, indexed_order}
use Rattle.plist_state.proofs.row_index.by_order.Given as goal

-- the order is neither before `first` nor from `end` on
abbrev pub invariant-loop-first : goal.invariant-loop-first
invariant-loop-first l =
    (l.end ≤ length l.row.items) × (((k : ℕ) → k < l.first → (indexed_order (orders l.row.items) k).1 < l.order) × ((k : ℕ) → l.end ≤ k → k < length l.row.items → l.order < (indexed_order (orders l.row.items) k).1))

abbrev pub decreases-loop-first : goal.decreases-loop-first
decreases-loop-first l = l.end - l.first
