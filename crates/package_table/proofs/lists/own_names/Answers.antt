use Rattle.std.proofs.Common.{◌<◌, ◌∙◌, length, map, sym, ap, subst}
use Rattle.std.specs.List.{AllByRecursion}
use Rattle.package_sets.specs.KeptSets.{positions_of}
use Rattle.package_table.specs.Meaning.{symbol_name}
use Rattle.package_table.proofs.Listed.{sorted_names}
use Rattle.package_table.proofs.ListedBy.{own_listed, all_places}
use Rattle.package_table.proofs.lists.own_names.Goals as goal

pub names_in-requires : goal.names_in-requires
names_in-requires c = subst (AllByRecursion (λ s. s < length c.args.sets.now.symbols)) (sym c.own.ensures) (all_places c.in_ok-number.number c.args.sets.now.symbols)

pub returns-clause-list : goal.returns-clause-list
returns-clause-list c =
    let names = sorted_names c.in_ok-names.names.items c.sort_unstable.new.self.items (map (symbol_name c.args.sets.now) (positions_of c.in_ok-number.number c.args.sets.now.symbols)) (c.in_ok-names.ensures ∙ ap (map (symbol_name c.args.sets.now)) c.own.ensures) c.sort_unstable.ensures.permutation c.sort_unstable.ensures.sorted in
    own_listed c.args.sets.now c.goodness.ensures c.requires.placed c.requires.sound c.args.owner.now c.in_ok-number.number c.in_ok-number.ensures.number (map (λ n. n.now) c.sort_unstable.new.self.items) names.0 names.1
