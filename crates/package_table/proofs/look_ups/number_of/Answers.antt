use Rattle.std.proofs.Common.{◌∙◌, sym}
use Rattle.package_table.proofs.ByName.{number_no_package, number_no_name, number_of_symbol}
use Rattle.package_table.proofs.look_ups.number_of.Goals as goal

pub returns-in_default : goal.returns-in_default
returns-in_default c = sym (number_no_package c.args.sets.now c.goodness.ensures c.args.home.now c.args.name.now (sym c.in_default.ensures))

pub returns-in_default-find_name : goal.returns-in_default-find_name
returns-in_default-find_name c = sym (number_no_name c.args.sets.now c.goodness.ensures c.args.home.now c.args.name.now (sym c.in_default-find_name.ensures))

pub returns : goal.returns
returns c = c.find_symbol.ensures ∙ number_of_symbol c.args.sets.now c.goodness.ensures c.args.home.now c.args.name.now c.in-Some.home c.in-Some-find_name.name (sym c.in-Some.ensures) (sym c.in-Some-find_name.ensures)
