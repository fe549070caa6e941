-- A text by its first byte and the rest, as slice patterns have them.
use Rattle.std.proofs.Common.{◌≡◌, ℕ, ◌-◌, ◌≤◌, List, [], ◌∷◌, length, take, drop, get_or, sym, ap, ◌∙◌, arith}
use Rattle.std.proofs.lemmas.List.{take_all, length-drop}

pub front : (c : ℕ) (text : List ℕ) → 1 ≤ length text → get_or text 0 0 ≡ c → c ∷ take (length text - 1) (drop 1 text) ≡ text
front c [] some e = absurd (omega arith)
front c (d ∷ ds) some e = ap (λ (x : ℕ). x ∷ take (length (d ∷ ds) - 1) ds) (sym e) ∙ ap (λ (xs : List ℕ). d ∷ xs) (take_all (length (d ∷ ds) - 1) ds (omega arith))

-- what a slice from an index on has
pub rest_is : (count : ℕ) (text : List ℕ) → take (length text - count) (drop count text) ≡ drop count text
rest_is count text = take_all (length text - count) (drop count text) (omega (arith, length-drop count text))
