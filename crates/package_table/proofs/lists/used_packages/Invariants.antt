use Rattle.std.proofs.Common.{◌≡◌, map, take}
use Rattle.package_sets.specs.KeptSets.{name_at, pair_at, positions_of}
use Rattle.package_table.proofs.lists.used_packages.Given as goal

-- the names so far
abbrev pub invariant-loop-position : goal.invariant-loop-position
invariant-loop-position l = map (λ n. n.now) l.names.items ≡ map (λ x. name_at l.sets.packages (pair_at l.sets.uses x).1) (take l.position-index (positions_of l.owner l.sets.uses))
