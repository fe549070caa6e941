use Rattle.std.proofs.Common.{subst}
use Rattle.std.specs.Prelude.{bytes_eq}
use Rattle.package_sets.specs.Consistent.{AreDistinctNames}
use Rattle.package_sets.proofs.Places.{distinct-map}
use Rattle.package_sets.proofs.names.Names.distinctness.Goals as goal

pub returns : goal.returns
returns c = subst AreDistinctNames c.self.view_is (distinct-map (λ k. k.bytes) bytes_eq c.self.inside.set.keys c.len-len.ensures.unique)
