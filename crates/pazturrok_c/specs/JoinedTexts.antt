-- The texts of many forms, joined.
use Rattle.std.specs.Prelude.{ℕ, ◌-◌, List, [], ◌∷◌, take, drop}

-- From a place on, which these bytes begin at, the texts that end at these places.
abbrev pub texts_in : ℕ → List ℕ → List ℕ → List (List ℕ)
texts_in start bytes [] = []
texts_in start bytes (end ∷ ends) = take (end - start) bytes ∷ texts_in end (drop (end - start) bytes) ends
