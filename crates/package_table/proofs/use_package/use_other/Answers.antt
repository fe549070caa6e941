use Rattle.std.proofs.Common.{refl}
use Rattle.package_table.proofs.Adding.{adds_same}
use Rattle.package_table.proofs.use_package.use_other.Goals as goal

pub returns-then-not-branch-clause-adds : goal.returns-then-not-branch-clause-adds
returns-then-not-branch-clause-adds c = (adds_same c.args.sets.now c.goodness.ensures, refl)
