-- The first byte of a file, where it is all that is asked for.
use Rattle.std.proofs.Common.{◌≡◌, ℕ, zero, suc, ◌<◌, min, List, [], ◌∷◌, length, take, drop, slice_set, refl, sym, ◌∙◌, ap, arith}
use Rattle.std.proofs.lemmas.List.{take_min}

none_taken : (n : ℕ) → take {A = ℕ} n [] ≡ []
none_taken zero = refl
none_taken (suc n) = refl

one_taken : (first byte : ℕ) (rest : List ℕ) → take 1 (byte ∷ rest) ≡ take (length (byte ∷ rest)) (first ∷ []) → take 1 (byte ∷ rest) ≡ first ∷ []
one_taken first byte rest is = is ∙ ap (λ (l : List ℕ). first ∷ l) (none_taken (length rest))

first_is : (buffer file : List ℕ) (first : ℕ) → 0 < length buffer → 1 ≡ min (length buffer) (length file) → take 1 file ≡ take (length file) (first ∷ []) → take 1 (slice_set buffer 0 first) ≡ take (length buffer) file
first_is [] file first some one is = absurd (omega (arith, some))
first_is (b ∷ bs) [] first some one is = absurd (omega (arith, one))
first_is (b ∷ bs) (byte ∷ rest) first some one is =
    sym (one_taken first byte rest is)
    ∙ ap (λ (n : ℕ). take n (byte ∷ rest)) one
    ∙ take_min (length (b ∷ bs)) (byte ∷ rest)

pub first_read : (buffer file : List ℕ) (first at : ℕ) → 0 < length buffer → at ≡ 0 → 1 ≡ min (length buffer) (length file) → take 1 file ≡ take (length file) (first ∷ []) → take 1 (slice_set buffer 0 first) ≡ take (length buffer) (drop at file)
first_read buffer file first at some at_start one is =
    first_is buffer file first some one is ∙ ap (λ (n : ℕ). take (length buffer) (drop n file)) (sym at_start)
