use Rattle.std.proofs.Common.{◌∙◌, Some, option_map, sym, ap}
use Rattle.package_sets.specs.KeptSets.{name_at}
use Rattle.package_table.specs.Meaning.{home_in}
use Rattle.package_table.proofs.FoundBy.{position_of, found_by, found_no_name}
use Rattle.package_table.proofs.Mapped.{named}
use Rattle.package_table.proofs.Puts.{this_known}
use Rattle.package_table.proofs.look_ups.found_home.Goals as goal

pub returns-in_default : goal.returns-in_default
returns-in_default c = sym (found_no_name c.args.sets.now c.goodness.ensures (name_at c.args.sets.now.packages c.args.owner) c.args.name.now (sym c.in_default.ensures))

pub found_number-requires-clause-name : goal.found_number-requires-clause-name
found_number-requires-clause-name c = (named c.args.name.now c.args.sets.now.names c.in-Some.name (sym c.in-Some.ensures)).0

pub home_name-requires : goal.home_name-requires
home_name-requires c =
    let k = c.args.sets.now in
    let here = position_of k.packages c.goodness.ensures.distinct.packages c.args.owner c.requires.package in
    (this_known k c.goodness.ensures (name_at k.packages c.args.owner) c.args.name.now c.args.owner here c.in-Some.name (sym c.in-Some.ensures) c.in-Some-found_number.symbol (sym c.in-Some-found_number.ensures)).0

pub returns-in-Some-found_number : goal.returns-in-Some-found_number
returns-in-Some-found_number c =
    let k = c.args.sets.now in
    let here = position_of k.packages c.goodness.ensures.distinct.packages c.args.owner c.requires.package in
    ap Some c.home_name.ensures ∙ ap (option_map (home_in k)) c.in-Some-found_number.ensures
    ∙ found_by k c.goodness.ensures (name_at k.packages c.args.owner) c.args.name.now c.args.owner c.in-Some.name here (sym c.in-Some.ensures) c.requires.joined

pub returns-in-None : goal.returns-in-None
returns-in-None c =
    let k = c.args.sets.now in
    let here = position_of k.packages c.goodness.ensures.distinct.packages c.args.owner c.requires.package in
    ap (option_map (home_in k)) c.in-None.ensures
    ∙ found_by k c.goodness.ensures (name_at k.packages c.args.owner) c.args.name.now c.args.owner c.in-Some.name here (sym c.in-Some.ensures) c.requires.joined
