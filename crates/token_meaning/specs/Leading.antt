-- Digits at the front of marks, as the text of a number is read from left to right.
use Rattle.std.specs.Prelude.{◌≡◌, ◌<◌, ℕ, Bool, true, false, not, ◌&&◌, ◌==◌, if◌then◌else◌, List, [], ◌∷◌, ◌++◌, map, Option, None, Some}
use Rattle.std.specs.Char.{digit_value}
use Rattle.token_scan.specs.declared.mark.Mark.{Mark}
use Rattle.token_scan.specs.declared.mark.Mark.TheVariants.{Plain, Quoted, Bar}
use Rattle.token_meaning.specs.Numerals.{is_digit_in, is_empty, are_digits, is_numeral, numeral_value, without_sign}
use Rattle.token_meaning.specs.Numbers.{is_point, is_exponent_marker}
use Rattle.token_meaning.specs.Results.{IsWorth}

-- the character of a mark in a number; 0, which no number has, for an escaped one and for a bar
abbrev pub code_of : Mark → ℕ
code_of (Plain c) = c
code_of (Quoted c) = 0
code_of Bar = 0

-- the bytes of these marks
abbrev pub codes_of : List Mark → List ℕ
codes_of marks = map code_of marks

abbrev pub is_dot : Mark → Bool
is_dot (Plain c) = is_point c
is_dot (Quoted c) = false
is_dot Bar = false

-- The text is digits in the base and this rest. The test says whether there is a digit, and the size is what they are worth.
pub record Leads (base : ℕ) (text : List ℕ) (some : Bool) (size : Option ℕ) (rest : List ℕ) : Type 0 where
  pub digits : List ℕ
  pub split : text ≡ digits ++ rest
  pub are : are_digits base digits ≡ true
  pub there : some ≡ not (is_empty digits)
  pub worth : IsWorth size (numeral_value base digits)

-- whether a digit of this base comes first
abbrev pub begins_with_digit : ℕ → List ℕ → Bool
begins_with_digit base [] = false
begins_with_digit base (c ∷ cs) = is_digit_in base c

-- the first is a digit, and this comes after it
abbrev pub IsFirstDigit : ℕ → List ℕ → ℕ → List ℕ → Type 0
IsFirstDigit base [] digit rest = ⊥
IsFirstDigit base (c ∷ cs) digit rest = (digit_value c < base) × (digit ≡ digit_value c) × (cs ≡ rest)

-- all the digits at the front, and what comes after them
pub record IsLeading (base : ℕ) (text : List ℕ) (some : Bool) (size : Option ℕ) (rest : List ℕ) : Type 0 where
  pub leads : Leads base text some size rest
  pub ends : begins_with_digit base rest ≡ false

-- the size of the text, where it is digits in the base alone
abbrev pub IsNumeralSize : ℕ → List ℕ → Option (Option ℕ) → Type 0
IsNumeralSize base text None = is_numeral base text ≡ false
IsNumeralSize base text (Some size) = (is_numeral base text ≡ true) × IsWorth size (numeral_value base text)

-- an exponent marker and decimal digits, perhaps with a sign between them (standard 2.3.2.2)
abbrev pub is_exponent : List ℕ → Bool
is_exponent [] = false
is_exponent (c ∷ cs) = is_exponent_marker c && is_numeral 10 (without_sign cs)

-- what comes after this character, where it is the first
abbrev pub after_code : ℕ → List ℕ → Option (List ℕ)
after_code code [] = None
after_code code (c ∷ cs) = if c == code then Some cs else None
