-- Numerals: digits in a base, with a sign or none, and what they are worth (standard 2.3.1, 2.3.2.1.1).
use Rattle.std.specs.Prelude.{ℕ, ◌+◌, ◌*◌, ◌^◌, Bool, true, false, not, ◌&&◌, ◌||◌, ◌==◌, nat_le, nat_lt, if◌then◌else◌, ℤ, pos, neg_ℤ, List, [], ◌∷◌, length, Option, Some, None}
use Rattle.std.specs.List.{list_all}
use Rattle.std.specs.Option.{option_map}
use Rattle.std.specs.Char.{digit_value}

-- 0 to 9, then the letters of either case, worth 10 to 35, as far as the base goes
abbrev pub is_digit_in : ℕ → ℕ → Bool
is_digit_in base c = nat_lt (digit_value c) base

abbrev pub is_empty : {X : Type 0} → List X → Bool
is_empty [] = true
is_empty (x ∷ xs) = false

-- each of these is a digit in the base
abbrev pub are_digits : ℕ → List ℕ → Bool
are_digits base text = list_all (is_digit_in base) text

-- one digit or more, and nothing else
abbrev pub is_numeral : ℕ → List ℕ → Bool
is_numeral base text = not (is_empty text) && are_digits base text

-- the sum of each digit times the power of the base that belongs to its place
unfoldable pub numeral_value : ℕ → List ℕ → ℕ
numeral_value base [] = 0
numeral_value base (d ∷ ds) = digit_value d * base ^ length ds + numeral_value base ds

-- 43 is plus, 45 minus
abbrev pub is_sign : ℕ → Bool
is_sign c = c == 43 || c == 45

-- what comes after the sign; all of it, if there is none
abbrev pub without_sign : List ℕ → List ℕ
without_sign [] = []
without_sign (c ∷ cs) = if is_sign c then cs else c ∷ cs

-- whether it begins with a minus
abbrev pub is_negative : List ℕ → Bool
is_negative [] = false
is_negative (c ∷ cs) = c == 45

-- the number of this size, below zero or not
abbrev pub signed : Bool → ℕ → ℤ
signed true size = neg_ℤ (pos size)
signed false size = pos size

-- from -2^127 to 2^127 - 1
abbrev pub is_magnitude_in_range : Bool → ℕ → Bool
is_magnitude_in_range true size = nat_le size (2 ^ 127)
is_magnitude_in_range false size = nat_lt size (2 ^ 127)

-- one more in front of the first part
abbrev pub with_first : {X : Type 0} → X → List X × List X → List X × List X
with_first x parts = (x ∷ parts.0, parts.1)

-- what is before the first element that passes, and what comes after it; None where none passes
abbrev pub cut_at_first : {X : Type 0} → (X → Bool) → List X → Option (List X × List X)
cut_at_first test [] = None
cut_at_first test (x ∷ xs) = if test x then Some ([], xs) else option_map (with_first x) (cut_at_first test xs)
