use Rattle.std.proofs.Common.{List, length, get_or, ℕ, ap, subst}
use Rattle.package_sets.specs.KeptSets.{Kept}
use Rattle.package_sets.specs.SymbolChains.{external_name, AreChainsOfNames}
use Rattle.package_sets.proofs.Chaining.{chained_kept}
use Rattle.package_sets.proofs.sets.PackageSets.copy.Goals as goal

pub copy_with-requires-clause-chained : goal.copy_with-requires-clause-chained
copy_with-requires-clause-chained c =
    subst (λ (k : Kept). AreChainsOfNames (external_name k.symbols k.externals) (length k.externals) c.in_ok-chains.chains) c.self.view_is
    (chained_kept (external_name c.self.inside.symbols c.self.inside.externals) (length c.self.inside.externals) c.self.inside.chains c.in_ok-chains.chains
    (λ j. ap (λ (l : List ℕ). get_or l j 0) c.in_ok-chains.ensures.lasts) c.in_ok-chains.ensures.befores c.self.invariant.chained)
