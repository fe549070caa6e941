use Rattle.std.proofs.Common.{◌≡◌, map, take}
use Rattle.package_table.proofs.lists.all_packages.Given as goal

-- the names so far
abbrev pub invariant-loop-number : goal.invariant-loop-number
invariant-loop-number l = map (λ n. n.now) l.names.items ≡ take l.number l.sets.packages
