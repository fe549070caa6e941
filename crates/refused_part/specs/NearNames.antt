-- The name of an operator that is near to another name.
use Rattle.std.specs.Prelude.{◌==◌, ◌&&◌, nat_eq, nat_le, ℕ, Bool, false, if◌then◌else◌, List, [], ◌∷◌, Option, None, Some}
use Rattle.strsim.specs.Edits.{damerau}

-- Two names are near if they begin with the same byte, and at most so many edits make one the other: a byte more, one less, another one,
-- or two neighbours changed round.
abbrev pub is_near : ℕ → (name known : List ℕ) → Bool
is_near most [] known = false
is_near most (x ∷ xs) [] = false
is_near most (x ∷ xs) (y ∷ ys) = (x == y) && nat_le (damerau nat_eq (x ∷ xs) (y ∷ ys)) most

-- the first of these names that is near
abbrev pub first_near : ℕ → List ℕ → List (List ℕ) → Option (List ℕ)
first_near most name [] = None
first_near most name (known ∷ others) = if is_near most name known then Some known else first_near most name others
