use Rattle.std.proofs.Common.{◌≡◌, ◌∷◌, ℕ, List, length}
use Rattle.name_patterns.specs.Pattern.{matches_pieces, pieces, some_end}
use Rattle.name_patterns.proofs.patterns.after_first.Given as goal

-- what is left decides, whatever comes after the part
abbrev pub invariant-loop-rest : goal.invariant-loop-rest
invariant-loop-rest l =
    (others : List ℕ) → some_end (matches_pieces (l.part ∷ pieces others)) l.rest ≡ some_end (matches_pieces (l.part ∷ pieces others)) l.text

abbrev pub decreases-loop-rest : goal.decreases-loop-rest
decreases-loop-rest l = length l.rest
