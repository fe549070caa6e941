use Rattle.std.proofs.Common.{subst}
use Rattle.package_sets.specs.KeptSets.{pair_eq}
use Rattle.package_sets.specs.Consistent.{AreDistinctPairs}
use Rattle.package_sets.specs.Groups.{pair_of}
use Rattle.package_sets.proofs.Places.{distinct-map}
use Rattle.package_sets.proofs.pairs.Pairs.distinctness.Goals as goal

pub returns : goal.returns
returns c = subst AreDistinctPairs c.self.view_is (distinct-map pair_of pair_eq c.self.inside.set.keys c.len-len.ensures.unique)
