use Rattle.std.proofs.Common.{◌∙◌, sym, ap, is_some}
use Rattle.package_table.proofs.ByName.{symbol_no_package, symbol_no_name, symbol_by}
use Rattle.package_table.proofs.look_ups.is_symbol.Goals as goal

pub returns-in_default : goal.returns-in_default
returns-in_default c = sym (symbol_no_package c.args.sets.now c.goodness.ensures c.args.home.now c.args.name.now (sym c.in_default.ensures))

pub returns-in_default-find_name : goal.returns-in_default-find_name
returns-in_default-find_name c = sym (symbol_no_name c.args.sets.now c.goodness.ensures c.args.home.now c.args.name.now (sym c.in_default-find_name.ensures))

pub returns : goal.returns
returns c = c.is_some.ensures ∙ ap is_some c.find_symbol.ensures ∙ symbol_by c.args.sets.now c.goodness.ensures c.args.home.now c.args.name.now c.in-Some.home c.in-Some-find_name.name (sym c.in-Some.ensures) (sym c.in-Some-find_name.ensures)
