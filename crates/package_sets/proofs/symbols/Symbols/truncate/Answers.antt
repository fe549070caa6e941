use Rattle.std.proofs.Common.{ℕ, List, length, sym, subst}
use Rattle.package_sets.specs.SymbolChains.{second_of, AreChainsOfNames}
use Rattle.package_sets.proofs.Chaining.{chained_front}
use Rattle.package_sets.proofs.symbols.Symbols.truncate.Goals as goal

pub invariant_of-self : goal.invariant_of-self
invariant_of-self c =
    subst (λ (ps : List (ℕ × ℕ)). AreChainsOfNames (second_of ps) (length ps) c.truncate_seconds.new.self) (sym c.truncate.ensures)
    (chained_front c.self.inside.pairs c.args.len c.truncate_seconds.new.self c.truncate_seconds.ensures)
