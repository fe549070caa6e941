use Rattle.std.proofs.Common.{subst}
use Rattle.package_sets.specs.Consistent.{IsGood}
use Rattle.package_sets.proofs.sets.PackageSets.goodness.Goals as goal

pub returns : goal.returns
returns c = subst IsGood c.self.view_is c.self.invariant.good
