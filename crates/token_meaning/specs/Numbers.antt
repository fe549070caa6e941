-- The syntax of numbers (standard 2.3.1, 2.3.2), of a text that is cut at its sign, its point, its slash and its exponent
-- marker. The forms of digits in the base are looked for first: so letters are digits before they are exponent markers.
use Rattle.std.specs.Prelude.{ℕ, ◌^◌, Bool, false, not, ◌&&◌, ◌||◌, ◌==◌, nat_lt, if◌then◌else◌, List, Option, Some, None, Result, Ok, Err, codes}
use Rattle.std.specs.Option.{option_or, ok_or}
use Rattle.std.specs.Char.{char_set_contains}
use Rattle.lisp_object.specs.Object.{Object, integer}
use Rattle.lisp_object.specs.Quotient.{quotient}
use Rattle.token_meaning.specs.declared.refusal.MeaningRefusal.{MeaningRefusal}
use Rattle.token_meaning.specs.declared.refusal.MeaningRefusal.TheVariants.{FloatToken, NumberRange, ZeroDenominator}
use Rattle.token_meaning.specs.Numerals.{is_empty, is_numeral, are_digits, numeral_value, without_sign, is_negative, signed, is_magnitude_in_range, cut_at_first}

abbrev pub is_point : ℕ → Bool
is_point c = c == 46

abbrev pub is_slash : ℕ → Bool
is_slash c = c == 47

-- e, s, f, d and l in either case (standard 2.3.2.2)
abbrev pub is_exponent_marker : ℕ → Bool
is_exponent_marker c = char_set_contains (codes "eEsSfFdDlL") c

-- ---- what numbers give

-- an integer, in the range of 128 bits with a sign
abbrev pub integer_of : Bool → ℕ → Result Object MeaningRefusal
integer_of negative size =
    if is_magnitude_in_range negative size then Ok (integer (signed negative size)) else Err NumberRange

-- A quotient in lowest terms, which has no value where the denominator is zero. The parts have to be in range as they are
-- written, but that is not asked where the denominator is zero.
abbrev pub ratio_of : Bool → ℕ → ℕ → Result Object MeaningRefusal
ratio_of negative numerator denominator =
    if denominator == 0 || (is_magnitude_in_range negative numerator && nat_lt denominator (2 ^ 128))
    then ok_or (quotient (signed negative numerator) denominator) ZeroDenominator
    else Err NumberRange

-- ---- the forms, of a text without its sign, and of its parts where it was cut

-- an integer: digits in the base
abbrev pub integer_form : ℕ → Bool → List ℕ → Option (Result Object MeaningRefusal)
integer_form base negative text =
    if is_numeral base text then Some (integer_of negative (numeral_value base text)) else None

-- an integer: decimal digits, and the point at the end
abbrev pub decimal_form : Bool → Option (List ℕ × List ℕ) → Option (Result Object MeaningRefusal)
decimal_form negative None = None
decimal_form negative (Some (whole, fraction)) =
    if is_numeral 10 whole && is_empty fraction then Some (integer_of negative (numeral_value 10 whole)) else None

-- a ratio: digits in the base on both sides of the slash
abbrev pub ratio_form : ℕ → Bool → Option (List ℕ × List ℕ) → Option (Result Object MeaningRefusal)
ratio_form base negative None = None
ratio_form base negative (Some (numerator, denominator)) =
    if is_numeral base numerator && is_numeral base denominator
    then Some (ratio_of negative (numeral_value base numerator) (numeral_value base denominator)) else None

-- a float without an exponent: decimal digits after the point, and perhaps before it
abbrev pub is_pointed : Option (List ℕ × List ℕ) → Bool
is_pointed None = false
is_pointed (Some (whole, fraction)) = are_digits 10 whole && is_numeral 10 fraction

-- before an exponent the digits may also be before the point alone
abbrev pub is_mantissa : List ℕ → Option (List ℕ × List ℕ) → Bool
is_mantissa text None = is_numeral 10 text
is_mantissa text (Some (whole, fraction)) =
    are_digits 10 whole && are_digits 10 fraction && not (is_empty whole && is_empty fraction)

-- a float with an exponent, which may have a sign
abbrev pub is_scaled : Option (List ℕ × List ℕ) → Bool
is_scaled None = false
is_scaled (Some (mantissa, exponent)) = is_mantissa mantissa (cut_at_first is_point mantissa) && is_numeral 10 (without_sign exponent)

-- a text without its sign is a float (standard 2.3.2.2)
abbrev pub is_float : List ℕ → Bool
is_float text = is_pointed (cut_at_first is_point text) || is_scaled (cut_at_first is_exponent_marker text)

-- a float is refused, as there are no floats
abbrev pub float_form : List ℕ → Option (Result Object MeaningRefusal)
float_form text = if is_float text then Some (Err FloatToken) else None

-- ---- all of them

-- an integer or a ratio of digits in the base
abbrev pub rational_form : ℕ → Bool → List ℕ → Option (Result Object MeaningRefusal)
rational_form base negative text = option_or (integer_form base negative text) (ratio_form base negative (cut_at_first is_slash text))

-- the forms of decimal digits with a point or an exponent
abbrev pub decimal_or_float_form : Bool → List ℕ → Option (Result Object MeaningRefusal)
decimal_or_float_form negative text = option_or (decimal_form negative (cut_at_first is_point text)) (float_form text)

-- a text without its sign: an integer or a ratio in the base, and else a decimal integer or a float
abbrev pub unsigned_number : ℕ → Bool → List ℕ → Option (Result Object MeaningRefusal)
unsigned_number base negative text = option_or (rational_form base negative text) (decimal_or_float_form negative text)

-- what the text gives as an integer or a ratio of digits in the base, with no decimal point (standard 2.4.8.7 to 2.4.8.10)
abbrev pub rational_number : ℕ → List ℕ → Option (Result Object MeaningRefusal)
rational_number base text = rational_form base (is_negative text) (without_sign text)

-- what the text gives as a number in the base; None where it is in no syntax of numbers
abbrev pub number_in_base : ℕ → List ℕ → Option (Result Object MeaningRefusal)
number_in_base base text = unsigned_number base (is_negative text) (without_sign text)
