-- The greatest divisor, and what is left when both parts are divided by it.
use Rattle.std.proofs.Common.{◌≡◌, ℕ, zero, suc, ◌*◌, ◌/◌, ◌%◌, ◌<◌, ◌≤◌, ◌^◌, ℤ, pos, negsuc, neg_ℤ, ap, true, false, ◌&&◌, refl, sym, subst, inl, inr, arith}
use Rattle.std.specs.Prelude.{unsigned_abs, int_div, FitsSigned, ◌==◌, Some}
use Rattle.std.specs.Int.{IsGcd, int_signum, w128}
use Prim.Native.Nat.{◌∣◌}
use Rattle.std.proofs.Math.Nat.{dvd_of_mod-eq-zero, mod-eq-zero_of_dvd, le_of_dvd, one-dvd, mul-div_cancel', mul-dvd-mul_left, dvd_of_mul-dvd-mul_left, pos_of_dvd_of_pos, eq-zero-or-pos, div-eq_of_lt, div_self, div-one}
use Rattle.std.proofs.lemmas.Bool.{cases_Bool, cases_lt, both_ways, and_parts, and_from, eqb-true, eq-eqb, ne_eqb}
use Rattle.lisp_object.specs.Lowest.{IsLowest}
use Rattle.lisp_object.specs.Object.{rational}
use Rattle.lisp_object.specs.Quotient.{divides, greatest_divisor, gcd, quotient}

divides_both : (a b k : ℕ) → (divides k a && divides k b) ≡ true → (k ∣ a) × (k ∣ b)
divides_both a b k h =
    let parts : (divides k a ≡ true) × (divides k b ≡ true) = and_parts (divides k a) (divides k b) h in
    (dvd_of_mod-eq-zero k (eqb-true (a % k) 0 parts.0), dvd_of_mod-eq-zero k (eqb-true (b % k) 0 parts.1))

divides_if : (k n : ℕ) → k ∣ n → divides k n ≡ true
divides_if k n h = eq-eqb (n % k) 0 (mod-eq-zero_of_dvd k h)

below_next : (a b g k : ℕ) → IsGcd a b g → (divides (suc k) a && divides (suc k) b) ≡ false → g ≤ suc k → g ≤ k
below_next a b g k is fails below =
    elim (cases_lt g (suc k)) [
      | inl less ↦ omega (arith, less)
      | inr same ↦
          let e : g ≡ suc k = omega (arith, same, below) in
          absurd (both_ways (divides (suc k) a && divides (suc k) b) fails
          (and_from (divides (suc k) a) (divides (suc k) b)
          (divides_if (suc k) a (subst (λ m. m ∣ a) e is.0)) (divides_if (suc k) b (subst (λ m. m ∣ b) e is.1))))
    ]

-- a greatest common divisor is the first one found when the candidates are counted down
found : (a b g k : ℕ) → 0 < b → IsGcd a b g → g ≤ k → greatest_divisor a b k ≡ g
unfolding greatest_divisor
found a b g zero some is below = omega (arith, below)
found a b g (suc k) some is below =
    elim (cases_Bool (divides (suc k) a && divides (suc k) b)) [
      | inl both ↦
          let parts : (suc k ∣ a) × (suc k ∣ b) = divides_both a b (suc k) both in
          let above : suc k ≤ g = le_of_dvd (pos_of_dvd_of_pos is.1 some) (is.2 (suc k) parts.0 parts.1) in
          rw both (omega (arith, above, below))
      | inr fails ↦ rw fails (found a b g k some is (below_next a b g k is fails below))
    ]

pub gcd_from_IsGcd : (a b g : ℕ) → 0 < b → IsGcd a b g → g ≡ gcd a b
gcd_from_IsGcd a b g some is = sym (found a b g b some is (le_of_dvd some is.1))

pub gcd_over_zero : (a b g : ℕ) → 0 < b → IsGcd a b g → 0 < g
gcd_over_zero a b g some is = pos_of_dvd_of_pos is.1 some

multiple : (a g e : ℕ) → g ∣ a → e ∣ a / g → g * e ∣ a
multiple a g e whole part = subst (λ m. g * e ∣ m) (mul-div_cancel' g whole) (mul-dvd-mul_left e g part)

pub coprime : (a d g : ℕ) → 0 < g → IsGcd a d g → IsGcd (a / g) (d / g) 1
coprime a d g some is = (
  one-dvd (a / g),
  one-dvd (d / g),
  λ e p q. dvd_of_mul-dvd-mul_left e some
      (subst (λ m. g * e ∣ m) (omega arith) (is.2 (g * e) (multiple a g e is.0 p) (multiple d g e is.1 q))),
)

abs_neg : (m : ℕ) → unsigned_abs (neg_ℤ (pos m)) ≡ m
abs_neg zero = refl
abs_neg (suc m) = refl

pub abs-div : (n : ℤ) (g : ℕ) → unsigned_abs (int_div n (pos g)) ≡ unsigned_abs n / g
abs-div (pos a) g = refl
abs-div (negsuc a) g = abs_neg (suc a / g)

over_one : (g q d : ℕ) → 0 < d → g * q ≡ d → (q ≡ 1 → ⊥) → 1 < q
over_one g zero d some e other = omega (arith, some, e)
over_one g (suc q) d some e other = elim (cases_lt 1 (suc q)) [ inl more ↦ more | inr less ↦ absurd (other (omega (arith, less))) ]

-- both parts divided by their greatest common divisor are in lowest terms
pub lowest : (n : ℤ) (d g : ℕ) → 0 < d → IsGcd (unsigned_abs n) d g → (d / g ≡ 1 → ⊥) → IsLowest (int_div n (pos g)) (d / g)
lowest n d g some is other = record {
  over_one = over_one g (d / g) d some (mul-div_cancel' g is.1) other;
  coprime = rw (abs-div n g) (coprime (unsigned_abs n) d g (gcd_over_zero (unsigned_abs n) d g some is) is);
}

-- a divisor of 2^127 or more divides only 0 and -2^127
pub signum-div : (n : ℤ) (k : ℕ) → FitsSigned w128 n → 2 ^ 127 ≤ k → k ∣ unsigned_abs n → int_signum n ≡ int_div n (pos k)
signum-div (pos a) k fits large h =
    let below : a < 2 ^ 127 = fits.sfits in
    let none : a ≡ 0 = elim (eq-zero-or-pos a) [ inl e ↦ e | inr over ↦ omega (arith, below, large, le_of_dvd over h) ] in
    rw (none, div-eq_of_lt {n = 0} {m = k} (omega (arith, large))) refl
signum-div (negsuc a) k fits large h =
    let below : a < 2 ^ 127 = fits.sfits in
    let same : k ≡ suc a = omega (arith, below, large, le_of_dvd (omega arith) h) in
    rw (same, div_self {n = suc a} (omega arith)) refl

by_one : (n : ℤ) → int_div n (pos 1) ≡ n
by_one (pos n) = ap (λ (m : ℕ). pos m) (div-one n)
by_one (negsuc n) = ap (λ (m : ℕ). neg_ℤ (pos m)) (div-one (suc n))

-- what is in lowest terms is its own quotient
pub lowest_stays : (n : ℤ) (d : ℕ) → IsLowest n d → quotient n d ≡ Some (rational n d)
lowest_stays n d is =
    let over : 1 < d = is.over_one in
    let one : 1 ≡ gcd (unsigned_abs n) d = gcd_from_IsGcd (unsigned_abs n) d 1 (omega arith) is.coprime in
    let some : (d == 0) ≡ false = ne_eqb d 0 (λ e. omega arith) in
    let more : (d == 1) ≡ false = ne_eqb d 1 (λ e. omega arith) in
    rw (some, ← one, div-one d, more, by_one n) refl
