use Rattle.std.proofs.Common.{◌≡◌, ℕ, ◌<◌, ◌-◌}
use Rattle.property_rows.proofs.Packed.{indicator_at}
use Rattle.property_rows.proofs.row.Row.search.Given as goal

-- none before this index has it
abbrev pub invariant-loop-index : goal.invariant-loop-index
invariant-loop-index l = (k : ℕ) → k < l.index → indicator_at l.self.items k ≡ l.indicator → ⊥

abbrev pub decreases-loop-index : goal.decreases-loop-index
decreases-loop-index l = l.count - l.index
