use Rattle.std.proofs.Common.{◌∙◌, [], option_map, sym, ap}
use Rattle.std.specs.Option.{option_map_or}
use Rattle.package_table.specs.Table.{Present}
use Rattle.package_table.specs.Meaning.{present_in}
use Rattle.package_table.proofs.Meant.{known, entry_there}
use Rattle.package_table.proofs.FoundBy.{nothing_by}
use Rattle.package_table.proofs.ByName.{no_package_entry}
use Rattle.package_table.proofs.lists.home_at.Goals as goal

pub returns-in_default : goal.returns-in_default
returns-in_default c = sym (ap (λ o. option_map_or (λ (e : Present). e.home) o []) (no_package_entry c.args.sets.now c.goodness.ensures c.args.owner.now c.args.name.now (sym c.in_default.ensures)))

pub returns-in_default-find_name : goal.returns-in_default-find_name
returns-in_default-find_name c = sym (ap (λ o. option_map_or (λ (e : Present). e.home) o []) (nothing_by c.args.sets.now c.goodness.ensures c.args.name.now (sym c.in_default-find_name.ensures) c.args.owner.now))

pub home_name-requires : goal.home_name-requires
home_name-requires c = (known c.args.sets.now c.goodness.ensures c.in-Some.owner c.in-Some-find_name.name c.in-Some-number_in.symbol (sym c.in-Some-number_in.ensures)).symbol

pub returns-in-Some-number_in : goal.returns-in-Some-number_in
returns-in-Some-number_in c =
    c.home_name.ensures
    ∙ sym (ap (λ o. option_map_or (λ (e : Present). e.home) o []) (entry_there c.args.sets.now c.goodness.ensures c.args.owner.now c.in-Some.owner (sym c.in-Some.ensures) c.args.name.now c.in-Some-find_name.name (sym c.in-Some-find_name.ensures) ∙ ap (option_map (present_in c.args.sets.now c.in-Some.owner)) (sym c.in-Some-number_in.ensures)))

pub returns-in-None : goal.returns-in-None
returns-in-None c =
    sym (ap (λ o. option_map_or (λ (e : Present). e.home) o []) (entry_there c.args.sets.now c.goodness.ensures c.args.owner.now c.in-Some.owner (sym c.in-Some.ensures) c.args.name.now c.in-Some-find_name.name (sym c.in-Some-find_name.ensures) ∙ ap (option_map (present_in c.args.sets.now c.in-Some.owner)) (sym c.in-None.ensures)))
