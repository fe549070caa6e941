-- Fractions by their quotients and what is left.
--     under_same      where the quotients are the same, what is left decides
--     under_less, under_more      else the quotients decide
--     under_apart     so both answer the same test
--     left_first, left_second      where one has nothing left
use Rattle.std.proofs.Common.{◌≡◌, ◌≢◌, ◌<◌, ◌≤◌, ℕ, Bool, zero, suc, ◌+◌, ◌*◌, ◌/◌, ◌%◌, true, false, not, nat_lt, nat_eq, refl, sym, ap, ◌∙◌, arith}
use Rattle.std.proofs.lemmas.Bool.Decides.{nat_tests}
use Rattle.std.proofs.lemmas.Bool.{lt-ltb, ltb-true, ltb-false}
use Rattle.std.proofs.Math.Nat.{div-add-mod, mod-lt, mul-le-mul_left, mul-le-mul_right}

common : (q r s b d : ℕ) → nat_lt ((b * q + r) * d) ((d * q + s) * b) ≡ nat_lt (d * r) (b * s)
common q r s b d = grind (arith, nat_tests)

by_parts : (a b c d : ℕ) → nat_lt (a * d) (c * b) ≡ nat_lt ((b * (a / b) + a % b) * d) ((d * (c / d) + c % d) * b)
by_parts a b c d =
    ap (λ x. nat_lt (x * d) (c * b)) (sym (div-add-mod a b)) ∙ ap (λ x. nat_lt ((b * (a / b) + a % b) * d) (x * b)) (sym (div-add-mod c d))

pub under_same : (a b c d : ℕ) → a / b ≡ c / d → nat_lt (a * d) (c * b) ≡ nat_lt (d * (a % b)) (b * (c % d))
under_same a b c d same =
    by_parts a b c d ∙ ap (λ q. nat_lt ((b * q + a % b) * d) ((d * (c / d) + c % d) * b)) same ∙ common (c / d) (a % b) (c % d) b d

below : (p q r s b d : ℕ) → suc p ≤ q → r < b → 0 < d → (b * p + r) * d < (d * q + s) * b
below p q r s b d less left over =
    let whole : suc (b * p + r) ≤ b * q = omega (arith, mul-le-mul_left b less, left) in
    let product : suc (b * p + r) * d ≤ b * q * d = mul-le-mul_right d whole in
    omega (arith, product, over)

pub under_less : (a b c d : ℕ) → 0 < b → 0 < d → a / b < c / d → nat_lt (a * d) (c * b) ≡ true
under_less a b c d first second less =
    by_parts a b c d ∙ lt-ltb _ _ (below (a / b) (c / d) (a % b) (c % d) b d less (mod-lt a first) second)

pub under_more : (a b c d : ℕ) → 0 < b → 0 < d → c / d < a / b → nat_lt (a * d) (c * b) ≡ false
under_more a b c d first second more =
    let over : (d * (c / d) + c % d) * b < (b * (a / b) + a % b) * d = below (c / d) (a / b) (c % d) (a % b) d b more (mod-lt c second) first in
    by_parts a b c d ∙ not_less ((b * (a / b) + a % b) * d) ((d * (c / d) + c % d) * b) over
  where
    not_less : (x y : ℕ) → y < x → nat_lt x y ≡ false
    not_less x y over = grind (arith, nat_tests, over)

apart_by : (a b c d : ℕ) (test : Bool) → nat_lt (a / b) (c / d) ≡ test → 0 < b → 0 < d → a / b ≢ c / d → test ≡ nat_lt (a * d) (c * b)
apart_by a b c d true is first second apart = sym (under_less a b c d first second (ltb-true (a / b) (c / d) is))
apart_by a b c d false is first second apart =
    let not_less : c / d ≤ a / b = ltb-false (a / b) (c / d) is in
    sym (under_more a b c d first second (omega (arith, not_less, apart)))

pub under_apart : (a b c d : ℕ) → 0 < b → 0 < d → a / b ≢ c / d → nat_lt (a / b) (c / d) ≡ nat_lt (a * d) (c * b)
under_apart a b c d = apart_by a b c d (nat_lt (a / b) (c / d)) refl

-- nothing is left of the first: it is less where something is left of the second
first_whole : (r s b d : ℕ) → 0 < b → r ≡ 0 → not (nat_eq s 0) ≡ nat_lt (d * r) (b * s)
first_whole r zero b d over whole = grind (arith, nat_tests, whole)
first_whole r (suc s) b d over whole = grind (arith, nat_tests, whole, over, mul-le-mul_left b (below_all s))
  where
    below_all : (s : ℕ) → 1 ≤ suc s
    below_all s = omega arith

pub left_first : (a b c d : ℕ) → 0 < b → a / b ≡ c / d → a % b ≡ 0 → not (nat_eq (c % d) 0) ≡ nat_lt (a * d) (c * b)
left_first a b c d over same whole = first_whole (a % b) (c % d) b d over whole ∙ sym (under_same a b c d same)

-- nothing is left of the second: the first is not less
second_whole : (r s b d : ℕ) → r ≢ 0 → s ≡ 0 → nat_eq r 0 ≡ nat_lt (d * r) (b * s)
second_whole zero s b d some whole = absurd (some refl)
second_whole (suc r) s b d some whole = grind (arith, nat_tests, whole)

pub left_second : (a b c d : ℕ) → a / b ≡ c / d → a % b ≢ 0 → c % d ≡ 0 → nat_eq (a % b) 0 ≡ nat_lt (a * d) (c * b)
left_second a b c d same some whole = second_whole (a % b) (c % d) b d some whole ∙ sym (under_same a b c d same)
