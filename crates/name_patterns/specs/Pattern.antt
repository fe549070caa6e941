-- Names that are like a pattern with stars.
use Rattle.std.specs.Prelude.{ℕ, Bool, false, ◌&&◌, ◌||◌, List, [], ◌∷◌, length, drop, take, nat_eq}
use Rattle.std.specs.List.{slice_split}
use Rattle.std.specs.Str.{str_eq_ignore_ascii_case}

abbrev pub is_star : ℕ → Bool
is_star byte = nat_eq byte 42

-- A pattern is a list of pieces, between which its stars stand.
abbrev pub pieces : List ℕ → List (List ℕ)
pieces pattern = slice_split is_star pattern

-- a text begins with a part, in upper or lower case
abbrev pub begins_with : List ℕ → List ℕ → Bool
begins_with part text = str_eq_ignore_ascii_case (take (length part) text) part

-- some end of a text is so: the whole text, or what is left of it without its first bytes
unfoldable pub some_end : (List ℕ → Bool) → List ℕ → Bool
some_end is [] = is []
some_end is (c ∷ cs) = is (c ∷ cs) || some_end is cs

-- A text is like one piece if it is that piece, in upper or lower case. It is like several if it begins with the first one, and some end of what
-- follows is like the others.
unfoldable pub matches_pieces : List (List ℕ) → List ℕ → Bool
matches_pieces [] text = false
matches_pieces (piece ∷ []) text = str_eq_ignore_ascii_case text piece
matches_pieces (piece ∷ next ∷ others) text = begins_with piece text && some_end (matches_pieces (next ∷ others)) (drop (length piece) text)

-- A name is like a pattern if it is like its pieces. So a star stands for any text, also for none, and each other byte for itself, in either case.
abbrev pub is_like : List ℕ → List ℕ → Bool
is_like pattern name = matches_pieces (pieces pattern) name
