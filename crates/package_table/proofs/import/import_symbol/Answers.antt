use Rattle.std.proofs.Common.{refl}
use Rattle.package_table.proofs.Adding.{adds_same}
use Rattle.package_table.proofs.import.import_symbol.Goals as goal

pub returns-then-not-branch-clause-adds : goal.returns-then-not-branch-clause-adds
returns-then-not-branch-clause-adds c = (adds_same c.args.sets.now c.goodness.ensures, refl)
