use Rattle.std.proofs.Common.{map}
use Rattle.package_table.specs.Meaning.{symbol_name, shown_positions, shown_symbol}
use Rattle.package_table.proofs.Listed.{sorted_names}
use Rattle.package_table.proofs.ListedBy.{shown_listed}
use Rattle.package_table.proofs.lists.external_names.Goals as goal

pub returns-clause-list : goal.returns-clause-list
returns-clause-list c =
    let q = c.in_ok-number.number in
    let names = sorted_names c.in_ok-names.names.items c.sort_unstable.new.self.items (map (λ x. symbol_name c.args.sets.now (shown_symbol c.args.sets.now q x)) (shown_positions c.args.sets.now q)) c.in_ok-names.ensures c.sort_unstable.ensures.permutation c.sort_unstable.ensures.sorted in
    (shown_listed c.args.sets.now c.goodness.ensures c.requires.placed c.requires.sound c.args.owner.now q c.in_ok-number.ensures.number).sorted (map (λ n. n.now) c.sort_unstable.new.self.items) names.0 names.1
