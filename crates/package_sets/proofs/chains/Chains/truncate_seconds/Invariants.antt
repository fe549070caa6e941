use Rattle.std.proofs.Common.{◌≤◌, ℕ, List, length, take}
use Rattle.package_sets.specs.declared.chains.Chains.{Chains}
use Rattle.package_sets.specs.SymbolChains.{second_of, AreChainsOfNames}
use Rattle.package_sets.proofs.chains.Chains.truncate_seconds.Given as goal

-- the places are the first ones, and none of those that stay is gone
pub record IsCut (pairs : List (ℕ × ℕ)) (len kept : ℕ) (now : Chains) : Type 0 where
  pub chained : AreChainsOfNames (second_of pairs) kept now
  pub fits : kept ≤ length pairs
  pub enough : length (take len pairs) ≤ kept

abbrev pub invariant-loop-kept : goal.invariant-loop-kept
invariant-loop-kept l = IsCut l.pairs l.len l.kept l.self

abbrev pub decreases-loop-kept : goal.decreases-loop-kept
decreases-loop-kept l = l.kept
