-- CRC-32C: the remainder of a text by Castagnoli's polynomial 1EDC6F41, as a shift register computes it. The register has 32 bits, and the
-- bits of a number stand in it in reverse: its lowest bit is the coefficient of the highest power.
use Rattle.std.specs.Prelude.{ℕ, zero, suc, ◌/◌, ◌%◌, ◌*◌, List, [], ◌∷◌, bit_xor}
use Rattle.std.specs.List.{flat_map}

-- the polynomial, in the order of the register, without its highest power
abbrev pub polynomial : ℕ
polynomial = 0x82F63B78

-- the register after a step: its lowest bit goes out, and where that is 1, the polynomial is subtracted
unfoldable pub register_after_bit : ℕ → ℕ
register_after_bit register = bit_xor (register / 2) (register % 2 * polynomial)

-- the register after a step in which a bit comes in
abbrev pub after_bit : ℕ → ℕ → ℕ
after_bit register bit = register_after_bit (bit_xor register bit)

-- the register after these bits
unfoldable pub after_bits : ℕ → List ℕ → ℕ
after_bits register [] = register
after_bits register (bit ∷ more) = after_bits (after_bit register bit) more

-- the lowest so many bits of a number, the lowest first
unfoldable pub bits : ℕ → ℕ → List ℕ
bits zero number = []
bits (suc count) number = number % 2 ∷ bits count (number / 2)

-- the bits of a text, byte by byte
abbrev pub text_bits : List ℕ → List ℕ
text_bits text = flat_map (bits 8) text

-- 32 bits that are 1
abbrev pub all_ones : ℕ
all_ones = 0xFFFFFFFF

-- the sum of a text that follows one with this sum: the register begins and ends with its bits inverted
abbrev pub sum_after : ℕ → List ℕ → ℕ
sum_after sum text = bit_xor (after_bits (bit_xor sum all_ones) (text_bits text)) all_ones

-- the sum of a text
abbrev pub crc32c : List ℕ → ℕ
crc32c text = sum_after 0 text
