-- Where a list is cut: `position` and `cut_at_first`.
use Rattle.std.proofs.Common.{◌≡◌, ℕ, zero, suc, ◌+◌, ◌<◌, ◌≤◌, Bool, true, false, cond, List, [], ◌∷◌, length, take, drop, get_or, None, Some, refl, arith, add-one, position}
use Rattle.std.specs.List.{position_or_len}
use Rattle.std.specs.Option.{option_map}
use Rattle.std.specs.Prelude.{nat_lt}
use Rattle.std.proofs.lemmas.Bool.{ltb-true, ltb-false}
use Rattle.std.proofs.lemmas.List.Sums.{fails_before_first, passes_at_first}
use Rattle.token_meaning.specs.Numerals.{cut_at_first}

cut_missing : {X : Type 0} (p : X → Bool) (xs : List X) (d : X) → ((k : ℕ) → k < length xs → p (get_or xs k d) ≡ false) → cut_at_first p xs ≡ None
cut_missing p [] d none = refl
cut_missing p (x ∷ xs) d none =
    let here : p x ≡ false = none 0 (omega arith) in
    let rest : cut_at_first p xs ≡ None = cut_missing p xs d (λ k lt. none (suc k) (omega arith)) in
    rw (here, rest) refl

cut_found : {X : Type 0} (p : X → Bool) (xs : List X) (i : ℕ) (d : X) → i < length xs → p (get_or xs i d) ≡ true → ((k : ℕ) → k < i → p (get_or xs k d) ≡ false) → cut_at_first p xs ≡ Some (take i xs, drop (i + 1) xs)
cut_found p [] i d lt at before = absurd (omega arith)
cut_found p (x ∷ xs) zero d lt at before = rw at refl
cut_found p (x ∷ xs) (suc i) d lt at before =
    let here : p x ≡ false = before 0 (omega arith) in
    let rest : cut_at_first p xs ≡ Some (take i xs, drop (i + 1) xs) = cut_found p xs i d (omega arith) at (λ k h. before (suc k) (omega arith)) in
    rw (here, rest, add-one i, add-one (suc i)) refl

at_first : {X : Type 0} (p : X → Bool) (xs : List X) (d : X) (b : Bool) → nat_lt (position_or_len p xs) (length xs) ≡ b
    → cut_at_first p xs ≡ option_map (λ i. (take i xs, drop (i + 1) xs)) (cond b (Some (position_or_len p xs)) None)
at_first p xs d true e =
    let lt : position_or_len p xs < length xs = ltb-true _ _ e in
    cut_found p xs (position_or_len p xs) d lt (passes_at_first p xs d lt) (λ k h. fails_before_first p xs k d h)
at_first p xs d false e =
    let le : length xs ≤ position_or_len p xs = ltb-false _ _ e in
    cut_missing p xs d (λ k lt. fails_before_first p xs k d (omega arith))

-- a list is cut at the first place that passes
pub cut_is : {X : Type 0} (p : X → Bool) (xs : List X) → cut_at_first p xs ≡ option_map (λ i. (take i xs, drop (i + 1) xs)) (position p xs)
cut_is p [] = refl
cut_is p (x ∷ xs) = at_first p (x ∷ xs) x (nat_lt (position_or_len p (x ∷ xs)) (length (x ∷ xs))) refl
