-- Tokens that are seen to be names.
use Rattle.std.specs.Prelude.{ℕ, ◌==◌, ◌&&◌, not, nat_lt, Bool, false, List, [], ◌∷◌}
use Rattle.std.specs.List.{list_any}

-- the first byte is beyond the digits, so that no number begins with it, and no byte is a colon
abbrev pub is_word : List ℕ → Bool
is_word [] = false
is_word (c ∷ cs) = nat_lt 57 c && not (list_any (λ c. c == 58) (c ∷ cs))
