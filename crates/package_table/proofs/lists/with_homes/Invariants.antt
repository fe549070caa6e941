use Rattle.std.proofs.Common.{◌≡◌, map, take}
use Rattle.package_table.specs.Readers.{home_at}
use Rattle.package_table.specs.Meaning.{numbered_of}
use Rattle.package_table.proofs.lists.with_homes.Given as goal

-- the pairs so far
abbrev pub invariant-loop-name : goal.invariant-loop-name
invariant-loop-name l = l.pairs ≡ map (λ n. (n, home_at (numbered_of l.sets).0 l.owner n)) (map (λ n. n.now) (take l.name-index l.names))
