use Rattle.std.proofs.Common.{◌≡◌, map, drop}
use Rattle.refused_part.specs.NearNames.{first_near}
use Rattle.refused_part.proofs.near.first_near.Given as goal

-- the name is among those that are left
abbrev pub invariant-names : goal.invariant-names
invariant-names l = first_near l.most l.name (map (λ known. known.now) (drop l.known-index l.names)) ≡ first_near l.most l.name (map (λ known. known.now) l.names)
