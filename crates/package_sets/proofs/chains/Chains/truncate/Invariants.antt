use Rattle.std.proofs.Common.{◌≤◌, ℕ, List, length, take}
use Rattle.package_sets.specs.declared.chains.Chains.{Chains}
use Rattle.package_sets.specs.SymbolChains.{external_name, AreChainsOfNames}
use Rattle.package_sets.proofs.chains.Chains.truncate.Given as goal

-- the places are the first ones, and none of those that stay is gone
pub record IsCut (symbols externals : List (ℕ × ℕ)) (len kept : ℕ) (now : Chains) : Type 0 where
  pub chained : AreChainsOfNames (external_name symbols externals) kept now
  pub fits : kept ≤ length externals
  pub enough : length (take len externals) ≤ kept

abbrev pub invariant-loop-kept : goal.invariant-loop-kept
invariant-loop-kept l = IsCut l.symbols l.externals l.len l.kept l.self

abbrev pub decreases-loop-kept : goal.decreases-loop-kept
decreases-loop-kept l = l.kept
