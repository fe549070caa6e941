use Rattle.std.proofs.Common.{◌≡◌, ◌≤◌, ℕ, List, length, take, min}
use Rattle.package_sets.proofs.pairs.Pairs.truncate.Given as goal

-- the pairs are the first of those that there were, and none of those that stay is gone
pub record IsCut (now then : List (ℕ × ℕ)) (len : ℕ) : Type 0 where
  pub first : now ≡ take (length now) then
  pub enough : min len (length then) ≤ length now

abbrev pub invariant-loop-self : goal.invariant-loop-self
invariant-loop-self l = IsCut l.self l.initial.self l.len

abbrev pub decreases-loop-self : goal.decreases-loop-self
decreases-loop-self l = length l.self
