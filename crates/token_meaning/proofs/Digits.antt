-- Which characters are no digits, and what no digits hold.
use Rattle.std.proofs.Common.{◌≡◌, ℕ, ◌≤◌, Bool, true, false, not, inl, inr, List, [], ◌∷◌, ◌++◌, lit≤, refl, sym, subst, ◌∙◌, codes}
use Rattle.std.specs.Prelude.{nat_lt, ◌==◌}
use Rattle.std.specs.List.{list_any, list_all}
use Rattle.std.specs.Char.{digit_value, char_set_contains}
use Rattle.std.proofs.lemmas.Bool.{eqb-true, le-ltb, and_parts, or_cases, and_left, and_right, cases_Bool, both_ways, not-true}
use Rattle.std.proofs.lemmas.List.Folds.{list_all-append}
use Rattle.token_meaning.specs.Numerals.{is_digit_in, are_digits, is_numeral, is_empty, is_sign}
use Rattle.token_meaning.specs.Numbers.{is_point, is_slash, is_exponent_marker}
use Rattle.token_meaning.proofs.Signs.{is_signed}

-- ---- characters

no_digit : (base k c : ℕ) → base ≤ 36 → digit_value k ≡ 36 → k ≡ c → is_digit_in base c ≡ false
no_digit base k c top worth e =
    subst (λ n. nat_lt (digit_value n) base ≡ false) e (subst (λ v. nat_lt v base ≡ false) (sym worth) (le-ltb 36 base top))

pub point_no_digit : (base c : ℕ) → base ≤ 36 → is_point c ≡ true → is_digit_in base c ≡ false
point_no_digit base c top e = no_digit base 46 c top refl (sym (eqb-true c 46 e))

pub slash_no_digit : (base c : ℕ) → base ≤ 36 → is_slash c ≡ true → is_digit_in base c ≡ false
slash_no_digit base c top e = no_digit base 47 c top refl (sym (eqb-true c 47 e))

members : (test : ℕ → Bool) (cs : List ℕ) (c : ℕ) → list_all test cs ≡ true → char_set_contains cs c ≡ true → test c ≡ true
members test [] c all e = absurd cc
members test (d ∷ cs) c all e =
    let both = and_parts (test d) (list_all test cs) all in
    elim (or_cases (d == c) (char_set_contains cs c) e) [
      | inl here ↦ subst (λ n. test n ≡ true) (eqb-true d c here) both.0
      | inr there ↦ members test cs c both.1 there
    ]

pub marker_no_digit : (c : ℕ) → is_exponent_marker c ≡ true → is_digit_in 10 c ≡ false
marker_no_digit c e = not-true _ (members (λ d. not (is_digit_in 10 d)) (codes "eEsSfFdDlL") c refl e)

pub marker_no_slash : (c : ℕ) → is_exponent_marker c ≡ true → is_slash c ≡ false
marker_no_slash c e = not-true _ (members (λ d. not (is_slash d)) (codes "eEsSfFdDlL") c refl e)

sign_no_digit : (base c : ℕ) → base ≤ 36 → is_sign c ≡ true → is_digit_in base c ≡ false
sign_no_digit base c top e =
    elim (or_cases (c == 43) (c == 45) e) [
      | inl f ↦ no_digit base 43 c top refl (sym (eqb-true c 43 f))
      | inr f ↦ no_digit base 45 c top refl (sym (eqb-true c 45 f))
    ]

-- ---- digits

-- no character of a kind that is no digit is among digits
pub none_among : (base : ℕ) (test : ℕ → Bool) → ((c : ℕ) → test c ≡ true → is_digit_in base c ≡ false) → (ds : List ℕ) → are_digits base ds ≡ true → list_any test ds ≡ false
none_among base test apart [] e = refl
none_among base test apart (d ∷ ds) e =
    let both = and_parts (is_digit_in base d) (are_digits base ds) e in
    elim (cases_Bool (test d)) [
      | inl f ↦ absurd (both_ways (is_digit_in base d) (apart d f) both.0)
      | inr f ↦ rw (f, none_among base test apart ds both.1) refl
    ]

pub mixed : (base : ℕ) (xs : List ℕ) (y : ℕ) (ys : List ℕ) → is_digit_in base y ≡ false → is_numeral base (xs ++ y ∷ ys) ≡ false
mixed base xs y ys e =
    let far : are_digits base (xs ++ y ∷ ys) ≡ false = list_all-append (is_digit_in base) xs (y ∷ ys) ∙ and_right (are_digits base xs) _ (and_left (is_digit_in base y) _ e) in
    and_right (not (is_empty (xs ++ y ∷ ys))) _ far

pub numeral_digits : (base : ℕ) (ds : List ℕ) → is_numeral base ds ≡ true → are_digits base ds ≡ true
numeral_digits base ds e = (and_parts (not (is_empty ds)) (are_digits base ds) e).1

pub numeral_some : (base : ℕ) (ds : List ℕ) → is_numeral base ds ≡ true → is_empty ds ≡ false
numeral_some base ds e = not-true _ (and_parts (not (is_empty ds)) (are_digits base ds) e).0

-- a numeral begins with no sign
pub numeral_unsigned : (base : ℕ) (ds rest : List ℕ) → base ≤ 36 → is_numeral base ds ≡ true → is_signed (ds ++ rest) ≡ false
numeral_unsigned base [] rest top e = absurd cc
numeral_unsigned base (d ∷ ds) rest top e =
    let first = and_parts (is_digit_in base d) (are_digits base ds) e in
    elim (cases_Bool (is_sign d)) [
      | inl f ↦ absurd (both_ways (is_digit_in base d) (sign_no_digit base d top f) first.0)
      | inr f ↦ f
    ]

-- nor do digits with a point after them
pub digits_unsigned : (ds rest : List ℕ) → are_digits 10 ds ≡ true → is_signed (ds ++ 46 ∷ rest) ≡ false
digits_unsigned [] rest e = refl
digits_unsigned (d ∷ ds) rest e = numeral_unsigned 10 (d ∷ ds) (46 ∷ rest) (lit≤ tt) e
