use Rattle.std.proofs.Common.{◌∙◌, Some, option_map, sym, ap}
use Rattle.package_table.specs.Meaning.{home_in}
use Rattle.package_table.proofs.Meant.{known}
use Rattle.package_table.proofs.FoundBy.{shows, external_by}
use Rattle.package_table.proofs.ByName.{external_no_package, external_no_name}
use Rattle.package_table.proofs.look_ups.external_home.Goals as goal

pub returns-in_default : goal.returns-in_default
returns-in_default c = sym (external_no_package c.args.sets.now c.goodness.ensures c.args.owner.now c.args.name.now (sym c.in_default.ensures))

pub returns-in_default-find_name : goal.returns-in_default-find_name
returns-in_default-find_name c = sym (external_no_name c.args.sets.now c.goodness.ensures c.args.owner.now c.args.name.now (sym c.in_default-find_name.ensures))

pub home_name-requires : goal.home_name-requires
home_name-requires c =
    let is = shows c.args.sets.now c.in-Some.owner c.in-Some-find_name.name c.in-Some-shown_number.symbol (sym c.in-Some-shown_number.ensures) in
    (known c.args.sets.now c.goodness.ensures c.in-Some.owner c.in-Some-find_name.name c.in-Some-shown_number.symbol is.0).symbol

pub returns-in-Some-shown_number : goal.returns-in-Some-shown_number
returns-in-Some-shown_number c =
    ap Some c.home_name.ensures ∙ ap (option_map (home_in c.args.sets.now)) c.in-Some-shown_number.ensures
    ∙ external_by c.args.sets.now c.goodness.ensures c.args.owner.now c.args.name.now c.in-Some.owner c.in-Some-find_name.name (sym c.in-Some.ensures) (sym c.in-Some-find_name.ensures)

pub returns-in-None : goal.returns-in-None
returns-in-None c =
    ap (option_map (home_in c.args.sets.now)) c.in-None.ensures
    ∙ external_by c.args.sets.now c.goodness.ensures c.args.owner.now c.args.name.now c.in-Some.owner c.in-Some-find_name.name (sym c.in-Some.ensures) (sym c.in-Some-find_name.ensures)
