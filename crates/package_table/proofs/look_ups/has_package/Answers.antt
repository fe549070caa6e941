use Rattle.std.proofs.Common.{◌∙◌, ap, is_some}
use Rattle.package_table.proofs.ByName.{package_some}
use Rattle.package_table.proofs.look_ups.has_package.Goals as goal

pub returns : goal.returns
returns c = c.is_some.ensures ∙ ap is_some c.find_package.ensures ∙ package_some c.args.sets.now c.goodness.ensures c.args.owner.now
