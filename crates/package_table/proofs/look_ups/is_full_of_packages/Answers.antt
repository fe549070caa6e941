use Rattle.std.proofs.Common.{◌∙◌, nat_le, sym, ap}
use Rattle.package_table.specs.Limits.{most_packages}
use Rattle.package_table.proofs.ByName.{package_count}
use Rattle.package_table.proofs.look_ups.is_full_of_packages.Goals as goal

pub returns : goal.returns
returns c = ap (nat_le most_packages) (c.package_count.ensures ∙ sym (package_count c.args.sets.now c.goodness.ensures))
