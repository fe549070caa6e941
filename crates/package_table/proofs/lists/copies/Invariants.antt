use Rattle.std.proofs.Common.{◌≡◌, map, take}
use Rattle.package_table.proofs.lists.copies.Given as goal

-- the names so far
abbrev pub invariant-loop-name : goal.invariant-loop-name
invariant-loop-name l = l.copies ≡ map (λ n. n.now) (take l.name-index l.names)
