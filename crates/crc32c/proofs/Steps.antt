-- Steps of the register: they are linear, and none but 0 becomes 0.
use Rattle.std.proofs.Common.{◌≡◌, ℕ, zero, suc, ◌*◌, ◌/◌, ◌%◌, ◌^◌, ◌<◌, bit_xor, refl, sym, ap, ap₂, ◌∙◌, arith, zero-mul, mul_assoc, pow-suc}
use Rattle.std.specs.Int.Bits.{xor_self, xor_zero_r, xor_assoc}
use Rattle.std.proofs.lemmas.Nat.{xor_comm, xor_of_32, xor_shr, xor_mod, shl-shr}
use Rattle.crc32c.specs.Register.{polynomial, register_after_bit}

-- ---- sums of bits

pub xor_swap : (a b c d : ℕ) → bit_xor (bit_xor a b) (bit_xor c d) ≡ bit_xor (bit_xor a c) (bit_xor b d)
xor_swap a b c d =
    xor_assoc a b (bit_xor c d)
    ∙ ap (bit_xor a) (sym (xor_assoc b c d) ∙ ap (λ (x : ℕ). bit_xor x d) (xor_comm b c) ∙ xor_assoc c b d)
    ∙ sym (xor_assoc a c (bit_xor b d))

-- twice the same is nothing
pub xor_twice : (a b : ℕ) → bit_xor (bit_xor a b) b ≡ a
xor_twice a b = xor_assoc a b b ∙ ap (bit_xor a) (xor_self b) ∙ xor_zero_r a

pub same_of_none : (a b : ℕ) → bit_xor a b ≡ 0 → a ≡ b
same_of_none a b none = sym (xor_twice a b) ∙ ap (λ (x : ℕ). bit_xor x b) none

-- what is added to both falls out
pub xor_common : (r a b : ℕ) → bit_xor (bit_xor r a) (bit_xor r b) ≡ bit_xor a b
xor_common r a b = xor_swap r a r b ∙ ap (λ (x : ℕ). bit_xor x (bit_xor a b)) (xor_self r)

bit_times : (x y p : ℕ) → x < 2 → y < 2 → bit_xor x y * p ≡ bit_xor (x * p) (y * p)
bit_times zero y p x_bit y_bit = ap (λ (z : ℕ). bit_xor z (y * p)) (sym (zero-mul p))
bit_times (suc zero) zero p x_bit y_bit = sym (ap (bit_xor (1 * p)) (zero-mul p) ∙ xor_zero_r (1 * p))
bit_times (suc zero) (suc zero) p x_bit y_bit = zero-mul p ∙ sym (xor_self (1 * p))
bit_times (suc zero) (suc (suc y)) p x_bit y_bit = absurd (omega (arith, y_bit))
bit_times (suc (suc x)) y p x_bit y_bit = absurd (omega (arith, x_bit))

-- ---- one step

pub shifted-xor : (a b : ℕ) → register_after_bit (bit_xor a b) ≡ bit_xor (register_after_bit a) (register_after_bit b)
unfolding register_after_bit
shifted-xor a b =
    ap₂ bit_xor (xor_shr a b 1)
    (ap (λ (x : ℕ). x * polynomial) (xor_mod a b 1) ∙ bit_times (a % 2) (b % 2) polynomial (omega arith) (omega arith))
    ∙ xor_swap (a / 2) (b / 2) (a % 2 * polynomial) (b % 2 * polynomial)

twice_even : (m : ℕ) → m * 2 % 2 ≡ 0
twice_even m = omega arith

higher : (m k : ℕ) → m * 2 ^ suc k ≡ m * 2 ^ k * 2
higher m k = ap (λ (x : ℕ). m * x) (pow-suc 2 k) ∙ sym (mul_assoc m (2 ^ k) 2)

pub shifted_even : (m : ℕ) → register_after_bit (m * 2) ≡ m
unfolding register_after_bit
shifted_even m =
    ap₂ (λ (x y : ℕ). bit_xor x (y * polynomial)) (shl-shr m 1) (twice_even m)
    ∙ xor_zero_r m

pub shifted_lt : (a : ℕ) → a < 2 ^ 32 → register_after_bit a < 2 ^ 32
unfolding register_after_bit
shifted_lt a fits = xor_of_32 (a / 2) (a % 2 * polynomial) (omega (arith, fits)) (omega arith)

-- none but 0 becomes 0
shifted_none : (a : ℕ) → a < 2 ^ 32 → register_after_bit a ≡ 0 → a ≡ 0
unfolding register_after_bit
shifted_none a fits none =
    let same = same_of_none (a / 2) (a % 2 * polynomial) none in
    omega (arith, fits, same)

-- ---- more steps

unfoldable pub steps : ℕ → ℕ → ℕ
steps zero a = a
steps (suc k) a = steps k (register_after_bit a)

pub steps-xor : (k a b : ℕ) → steps k (bit_xor a b) ≡ bit_xor (steps k a) (steps k b)
unfolding steps
steps-xor zero a b = refl
steps-xor (suc k) a b = ap (steps k) (shifted-xor a b) ∙ steps-xor k (register_after_bit a) (register_after_bit b)

pub steps_none : (k a : ℕ) → a < 2 ^ 32 → steps k a ≡ 0 → a ≡ 0
unfolding steps
steps_none zero a fits none = none
steps_none (suc k) a fits none = shifted_none a fits (steps_none k (register_after_bit a) (shifted_lt a fits) none)

-- two that differ stay different
pub steps_same : (k a b : ℕ) → bit_xor a b < 2 ^ 32 → steps k a ≡ steps k b → a ≡ b
steps_same k a b fits same =
    same_of_none a b
    (steps_none k (bit_xor a b) fits
    (steps-xor k a b ∙ ap (λ (x : ℕ). bit_xor x (steps k b)) same ∙ xor_self (steps k b)))

-- a number that stands k bits higher comes down to its place
pub steps_high : (k m : ℕ) → steps k (m * 2 ^ k) ≡ m
unfolding steps
steps_high zero m = omega arith
steps_high (suc k) m = ap (steps k) (ap register_after_bit (higher m k) ∙ shifted_even (m * 2 ^ k)) ∙ steps_high k m
