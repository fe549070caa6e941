use Rattle.std.proofs.Common.{map}
use Rattle.package_table.proofs.Listed.{sorted_names}
use Rattle.package_table.proofs.ListedBy.{packages_listed}
use Rattle.package_table.proofs.lists.package_names.Goals as goal

pub returns : goal.returns
returns c =
    let names = sorted_names c.in_ok-names.names.items c.sort_unstable.new.self.items c.args.sets.now.packages c.in_ok-names.ensures c.sort_unstable.ensures.permutation c.sort_unstable.ensures.sorted in
    packages_listed c.args.sets.now c.goodness.ensures (map (λ n. n.now) c.sort_unstable.new.self.items) names.0 names.1
