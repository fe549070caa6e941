-- How pairs are kept: in a set, and beside it the positions of the pairs of each first number.
use Rattle.std.specs.Prelude.{◌++◌, ◌∷◌, nat_eq, if◌then◌else◌, ◌≡◌, ◌<◌, ◌^◌, ℕ, List, [], map, length, get_or}
use Rattle.std.specs.Global.{Vec}
use Rattle.package_sets.specs.declared.pair.Pair.{Pair}
use Rattle.package_sets.specs.declared.pairs.Pairs.TheInside.{Inside}
use Rattle.package_sets.specs.KeptSets.{positions_of}

-- a pair of the program, as one of the logic
abbrev pub pair_of : Pair → ℕ × ℕ
pair_of p = (p.first, p.second)

-- the pairs of a set, in its order
abbrev pub pairs_of : Inside → List (ℕ × ℕ)
pairs_of a = map pair_of a.set.keys

-- the group of f, which is empty if there is none
abbrev pub group_at : List (Vec ℕ) → ℕ → List ℕ
group_at groups f = get_or (map (λ g. g.items) groups) f []

-- two tables have the same positions for each first number
abbrev pub HaveSameGroups : List (Vec ℕ) → List (Vec ℕ) → Type 0
HaveSameGroups gs hs = (f : ℕ) → group_at hs f ≡ group_at gs f

-- the position i is last in the group of n, and the other groups are the same
abbrev pub IsInGroup : ℕ → ℕ → List (Vec ℕ) → List (Vec ℕ) → Type 0
IsInGroup n i gs hs =
    (f : ℕ) → group_at hs f ≡ (if nat_eq n f then group_at gs f ++ i ∷ [] else group_at gs f)

-- the table has the positions of the pairs for each first number
abbrev pub ArePositionsGrouped : List (Vec ℕ) → List (ℕ × ℕ) → Type 0
ArePositionsGrouped groups ps = (f : ℕ) → group_at groups f ≡ positions_of f ps

-- a set of pairs that is small enough, with its groups
pub record AreSoundPairs (a : Inside) : Type 0 where
  pub few : length (pairs_of a) < 2 ^ 32
  pub grouped : ArePositionsGrouped a.groups.items (pairs_of a)
