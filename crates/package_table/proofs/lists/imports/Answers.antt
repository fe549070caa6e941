use Rattle.std.proofs.Common.{◌∙◌, List, map, get_or, sym, ap, Bor}
use Rattle.package_sets.specs.KeptSets.{positions_of}
use Rattle.package_table.specs.Table.{Name}
use Rattle.package_table.specs.Readers.{home_at}
use Rattle.package_table.specs.Meaning.{numbered_of, symbol_name}
use Rattle.package_table.proofs.Listed.{sorted_names}
use Rattle.package_table.proofs.ListedBy.{imported_listed, imported_pairs}
use Rattle.package_table.proofs.lists.imports.Goals as goal

pub returns-clause-list : goal.returns-clause-list
returns-clause-list c =
    let names = sorted_names c.in_ok-names.names.items c.sort_unstable.new.self.items (map (λ x. symbol_name c.args.sets.now (get_or c.args.sets.now.imported x 0)) (positions_of c.in_ok-number.number c.args.sets.now.imports)) c.in_ok-names.ensures c.sort_unstable.ensures.permutation c.sort_unstable.ensures.sorted in
    let pair : Name → Name × Name = λ n. (n, home_at (numbered_of c.args.sets.now).0 c.args.owner.now n) in
    c.in_ok-with_homes.ensures ∙ ap (λ (ns : List (Bor Name)). map pair (map (λ n. n.now) ns)) c.as_slice.ensures.value
    ∙ ap (map pair) (imported_listed c.args.sets.now c.goodness.ensures c.requires.placed c.requires.sound c.args.owner.now c.in_ok-number.number c.in_ok-number.ensures.number (map (λ n. n.now) c.sort_unstable.new.self.items) names.0 names.1)
    ∙ sym (imported_pairs (numbered_of c.args.sets.now).0 c.args.owner.now)
