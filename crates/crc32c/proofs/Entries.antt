-- The table is the register after eight steps, by its lowest byte.
use Rattle.std.proofs.Common.{◌≡◌, ℕ, zero, suc, ◌+◌, ◌*◌, ◌/◌, ◌%◌, ◌^◌, ◌<◌, Bool, true, false, cond, eqb, eqb-true, List, [], ◌∷◌, length, get_or, bit_and, bit_xor, refl, sym, ap, ap₂, ◌∙◌, arith}
use Rattle.std.specs.Int.Bits.{xor_zero_r}
use Rattle.std.proofs.lemmas.Nat.{xor_block, xor_shr, and_mask}
use Rattle.crc32c.specs.Register.{register_after_bit, after_bits, bits}
use Rattle.crc32c.specs.declared.table.TheConstants.{TABLE}
use Rattle.crc32c.proofs.Bits.{gathered, value-bits, length-bits}
use Rattle.crc32c.proofs.Steps.{steps, steps-xor, steps_high}

-- these are the registers after eight steps, from this one on
unfoldable are_steps : ℕ → List ℕ → Bool
are_steps from [] = true
are_steps from (register ∷ more) = cond (eqb register (steps 8 from)) (are_steps (suc from) more) false

both : (b c : Bool) → cond b c false ≡ true → (b ≡ true) × (c ≡ true)
both true c is = (refl, is)
both false c is = absurd (cc)

at_first : (from : ℕ) → from ≡ from + 0
at_first from = omega arith

at_next : (from i : ℕ) → suc from + i ≡ from + suc i
at_next from i = omega arith

from_zero : (i : ℕ) → 0 + i ≡ i
from_zero i = omega arith

one_of : (from : ℕ) (table : List ℕ) (i : ℕ) → are_steps from table ≡ true → i < length table → get_or table i 0 ≡ steps 8 (from + i)
unfolding are_steps
one_of from [] i are within = absurd (omega (arith, within))
one_of from (register ∷ more) zero are within =
    eqb-true register (steps 8 from) (both (eqb register (steps 8 from)) (are_steps (suc from) more) are).0 ∙ ap (steps 8) (at_first from)
one_of from (register ∷ more) (suc i) are within =
    one_of (suc from) more i (both (eqb register (steps 8 from)) (are_steps (suc from) more) are).1 (omega (arith, within))
    ∙ ap (steps 8) (at_next from i)

the_table : are_steps 0 TABLE ≡ true
unfolding are_steps steps register_after_bit
the_table = refl

pub table_is : (i : ℕ) → i < 256 → get_or TABLE i 0 ≡ steps 8 i
table_is i within = one_of 0 TABLE i the_table (omega (arith, within)) ∙ ap (steps 8) (from_zero i)

-- the lowest byte and the rest
from_parts : (x : ℕ) → x ≡ x / 256 * 2 ^ 8 + x % 256
from_parts x = omega arith

low_part : (x : ℕ) → x % 256 ≡ 0 * 2 ^ 8 + x % 256
low_part x = omega arith

high_part : (x : ℕ) → x / 256 * 2 ^ 8 ≡ x / 256 * 2 ^ 8 + 0
high_part x = omega arith

no_rest : (byte : ℕ) → byte < 256 → byte / 256 ≡ 0
no_rest byte fits = omega (arith, fits)

parted : (x : ℕ) → x ≡ bit_xor (x % 256) (x / 256 * 2 ^ 8)
parted x =
    from_parts x
    ∙ sym (
    ap₂ bit_xor (low_part x) (high_part x)
    ∙ xor_block 8 0 (x / 256) (x % 256) 0 (omega arith) (omega arith)
    ∙ ap (λ (y : ℕ). x / 256 * 2 ^ 8 + y) (xor_zero_r (x % 256)))

pub eight_steps : (x : ℕ) → steps 8 x ≡ bit_xor (steps 8 (x % 256)) (x / 256)
eight_steps x =
    ap (steps 8) (parted x) ∙ steps-xor 8 (x % 256) (x / 256 * 2 ^ 8) ∙ ap (bit_xor (steps 8 (x % 256))) (steps_high 8 (x / 256))

-- a byte that comes in
pub after_byte_is : (r byte : ℕ) → byte < 256 → after_bits r (bits 8 byte) ≡ bit_xor (get_or TABLE (bit_and (bit_xor r byte) 255) 0) (r / 256)
after_byte_is r byte fits =
    let x = bit_xor r byte in
    let low : bit_and x 255 ≡ x % 256 = and_mask x 8 in
    let rest : x / 256 ≡ r / 256 = xor_shr r byte 8 ∙ ap (bit_xor (r / 256)) (no_rest byte fits) ∙ xor_zero_r (r / 256) in
    let entry : steps 8 (x % 256) ≡ get_or TABLE (bit_and x 255) 0 =
    sym (table_is (x % 256) (omega arith)) ∙ ap (λ (i : ℕ). get_or TABLE i 0) (sym low) in
    gathered r (bits 8 byte)
    ∙ ap₂ (λ (n v : ℕ). steps n (bit_xor r v)) (length-bits 8 byte) (value-bits 8 byte (omega (arith, fits)))
    ∙ eight_steps x
    ∙ ap₂ bit_xor entry rest
