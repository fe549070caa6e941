use Rattle.std.proofs.Common.{◌∙◌, sym}
use Rattle.package_table.proofs.ByName.{used_no_package, used_none, used_is}
use Rattle.package_table.proofs.look_ups.is_used.Goals as goal

pub returns-in_default : goal.returns-in_default
returns-in_default c = sym (used_no_package c.args.sets.now c.goodness.ensures c.args.owner.now c.args.used.now (sym c.in_default.ensures))

pub returns-in_default-find_package : goal.returns-in_default-find_package
returns-in_default-find_package c = sym (used_none c.args.sets.now c.goodness.ensures c.args.owner.now c.args.used.now (sym c.in_default-find_package.ensures))

pub returns : goal.returns
returns c = c.is_used.ensures ∙ used_is c.args.sets.now c.goodness.ensures c.args.owner.now c.args.used.now c.in-Some.owner c.in-Some-find_package.used (sym c.in-Some.ensures) (sym c.in-Some-find_package.ensures)
