use Rattle.std.proofs.Common.{◌∙◌, List, map, ap, Bor}
use Rattle.package_sets.specs.KeptSets.{name_at, pair_at, positions_of}
use Rattle.package_table.specs.Table.{Name}
use Rattle.package_table.proofs.Listed.{sorted_names}
use Rattle.package_table.proofs.ListedBy.{used_listed}
use Rattle.package_table.proofs.lists.uses.Goals as goal

pub returns-clause-list : goal.returns-clause-list
returns-clause-list c =
    let names = sorted_names c.in_ok-names.names.items c.sort_unstable.new.self.items (map (λ x. name_at c.args.sets.now.packages (pair_at c.args.sets.now.uses x).1) (positions_of c.in_ok-number.number c.args.sets.now.uses)) c.in_ok-names.ensures c.sort_unstable.ensures.permutation c.sort_unstable.ensures.sorted in
    c.in_ok-copies.ensures ∙ ap (λ (ns : List (Bor Name)). map (λ n. n.now) ns) c.as_slice.ensures.value
    ∙ used_listed c.args.sets.now c.goodness.ensures c.requires.placed c.requires.sound c.args.owner.now c.in_ok-number.number c.in_ok-number.ensures.number (map (λ n. n.now) c.sort_unstable.new.self.items) names.0 names.1
