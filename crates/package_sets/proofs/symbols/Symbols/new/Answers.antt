use Rattle.std.proofs.Common.{ℕ, List, [], length, sym, subst}
use Rattle.package_sets.specs.SymbolChains.{second_of, AreChainsOfNames}
use Rattle.package_sets.proofs.symbols.Symbols.new.Goals as goal

pub invariant_of-result : goal.invariant_of-result
invariant_of-result c = subst (λ (ps : List (ℕ × ℕ)). AreChainsOfNames (second_of ps) (length ps) c.new-2.result) (sym c.new.ensures) (c.new-2.ensures (second_of []))
