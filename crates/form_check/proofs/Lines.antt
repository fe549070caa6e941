-- What comes after the end of a line.
use Rattle.std.proofs.Common.{◌≡◌, ◌==◌, ℕ, Bool, true, false, if◌then◌else◌, length, arith, rules, List, [], ◌∷◌, ap, refl}
use Rattle.form_check.specs.Checking.{after_line}

is_equal : (c d : ℕ) → c ≡ d → (c == d) ≡ true
is_equal c d is = search rules

differs : (c d : ℕ) → (c ≡ d → ⊥) → (c == d) ≡ false
differs c d apart = search rules

pub at_end_of_line : (c : ℕ) (cs : List ℕ) → c ≡ 10 → after_line (c ∷ cs) ≡ cs
unfolding after_line
at_end_of_line c cs is = ap (λ (b : Bool). if b then cs else after_line cs) (is_equal c 10 is)

pub in_line : (c : ℕ) (cs : List ℕ) → (c ≡ 10 → ⊥) → after_line (c ∷ cs) ≡ after_line cs
unfolding after_line
in_line c cs apart = ap (λ (b : Bool). if b then cs else after_line cs) (differs c 10 apart)

-- no line is left
pub at_end : (xs whole : List ℕ) → length xs ≡ 0 → after_line xs ≡ whole → xs ≡ whole
unfolding after_line
at_end [] whole none is = is
at_end (x ∷ xs) whole none is = absurd (omega (arith, none))
