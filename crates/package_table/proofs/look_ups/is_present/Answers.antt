use Rattle.std.proofs.Common.{◌∙◌, sym, ap, is_some}
use Rattle.package_table.proofs.ByName.{present_no_package, present_no_name, present_by_number}
use Rattle.package_table.proofs.look_ups.is_present.Goals as goal

pub returns-in_default : goal.returns-in_default
returns-in_default c = sym (present_no_package c.args.sets.now c.goodness.ensures c.args.owner.now c.args.name.now (sym c.in_default.ensures))

pub returns-in_default-find_name : goal.returns-in_default-find_name
returns-in_default-find_name c = sym (present_no_name c.args.sets.now c.goodness.ensures c.args.owner.now c.args.name.now (sym c.in_default-find_name.ensures))

pub returns : goal.returns
returns c = c.is_some.ensures ∙ ap is_some c.number_in.ensures ∙ present_by_number c.args.sets.now c.goodness.ensures c.args.owner.now c.args.name.now c.in-Some.owner c.in-Some-find_name.name (sym c.in-Some.ensures) (sym c.in-Some-find_name.ensures)
