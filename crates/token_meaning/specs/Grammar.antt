-- The syntax of numbers by its grammar (standard 2.3.1, 2.3.2): a text is a number of a form where it is the parts of that
-- form, one after the other. `number_in_base` gives what this grammar says (laws.rt).
use Rattle.std.specs.Prelude.{◌≡◌, ℕ, Bool, true, false, List, [], ◌∷◌, ◌++◌, ◌⊎◌, Result, Err}
use Rattle.lisp_object.specs.Object.{Object}
use Rattle.token_meaning.specs.declared.refusal.MeaningRefusal.{MeaningRefusal}
use Rattle.token_meaning.specs.declared.refusal.MeaningRefusal.TheVariants.{FloatToken}
use Rattle.token_meaning.specs.Numerals.{is_numeral, are_digits, numeral_value}
use Rattle.token_meaning.specs.Numbers.{is_exponent_marker, integer_of, ratio_of}

-- a sign, or none
pub data Sign : Type 0 where
  absent : Sign
  plus : Sign
  minus : Sign

-- 43 is plus, 45 minus
abbrev pub sign_bytes : Sign → List ℕ
sign_bytes absent = []
sign_bytes plus = 43 ∷ []
sign_bytes minus = 45 ∷ []

abbrev pub is_minus : Sign → Bool
is_minus absent = false
is_minus plus = false
is_minus minus = true

-- [sign] digit+, in the base
pub record IsDigits (base : ℕ) (text : List ℕ) (negative : Bool) (size : ℕ) : Type 0 where
  pub sign : Sign
  pub digits : List ℕ
  pub numeral : is_numeral base digits ≡ true
  pub parts : text ≡ sign_bytes sign ++ digits
  pub below_zero : negative ≡ is_minus sign
  pub worth : size ≡ numeral_value base digits

-- [sign] decimal-digit+ decimal-point
pub record IsDecimal (text : List ℕ) (negative : Bool) (size : ℕ) : Type 0 where
  pub sign : Sign
  pub digits : List ℕ
  pub numeral : is_numeral 10 digits ≡ true
  pub parts : text ≡ sign_bytes sign ++ (digits ++ 46 ∷ [])
  pub below_zero : negative ≡ is_minus sign
  pub worth : size ≡ numeral_value 10 digits

-- an integer, in the base or with a decimal point
abbrev pub IsInteger : ℕ → List ℕ → Bool → ℕ → Type 0
IsInteger base text negative size = IsDigits base text negative size ⊎ IsDecimal text negative size

-- [sign] digit+ slash digit+, in the base
pub record IsRatio (base : ℕ) (text : List ℕ) (negative : Bool) (numerator denominator : ℕ) : Type 0 where
  pub sign : Sign
  pub above : List ℕ
  pub below : List ℕ
  pub numeral_above : is_numeral base above ≡ true
  pub numeral_below : is_numeral base below ≡ true
  pub parts : text ≡ sign_bytes sign ++ (above ++ 47 ∷ below)
  pub below_zero : negative ≡ is_minus sign
  pub worth_above : numerator ≡ numeral_value base above
  pub worth_below : denominator ≡ numeral_value base below

-- exponent-marker [sign] decimal-digit+
pub record IsExponent (text : List ℕ) : Type 0 where
  pub marker : ℕ
  pub sign : Sign
  pub digits : List ℕ
  pub marks : is_exponent_marker marker ≡ true
  pub numeral : is_numeral 10 digits ≡ true
  pub parts : text ≡ marker ∷ sign_bytes sign ++ digits

-- [sign] decimal-digit* decimal-point decimal-digit+ [exponent]
pub record IsPointed (text : List ℕ) : Type 0 where
  pub sign : Sign
  pub whole : List ℕ
  pub fraction : List ℕ
  pub exponent : List ℕ
  pub digits : are_digits 10 whole ≡ true
  pub numeral : is_numeral 10 fraction ≡ true
  pub scale : (exponent ≡ []) ⊎ IsExponent exponent
  pub parts : text ≡ sign_bytes sign ++ (whole ++ 46 ∷ (fraction ++ exponent))

-- a decimal point and decimal-digit*
pub record IsFraction (text : List ℕ) : Type 0 where
  pub fraction : List ℕ
  pub digits : are_digits 10 fraction ≡ true
  pub parts : text ≡ 46 ∷ fraction

-- [sign] decimal-digit+ [decimal-point decimal-digit*] exponent
pub record IsScaled (text : List ℕ) : Type 0 where
  pub sign : Sign
  pub whole : List ℕ
  pub fraction : List ℕ
  pub exponent : List ℕ
  pub numeral : is_numeral 10 whole ≡ true
  pub rest : (fraction ≡ []) ⊎ IsFraction fraction
  pub scale : IsExponent exponent
  pub parts : text ≡ sign_bytes sign ++ (whole ++ (fraction ++ exponent))

-- a float of either form (standard 2.3.2.2)
abbrev pub IsFloat : List ℕ → Type 0
IsFloat text = IsPointed text ⊎ IsScaled text

-- what a rational of digits gives
abbrev pub IsRational : ℕ → List ℕ → Result Object MeaningRefusal → Type 0
IsRational base text given =
    ((negative : Bool) × (size : ℕ) × IsDigits base text negative size × (given ≡ integer_of negative size))
    ⊎ ((negative : Bool) × (numerator : ℕ) × (denominator : ℕ) × IsRatio base text negative numerator denominator
    × (given ≡ ratio_of negative numerator denominator))

-- what a number of each form gives
abbrev pub GivesNumber : ℕ → List ℕ → Result Object MeaningRefusal → Type 0
GivesNumber base text given =
    ((negative : Bool) × (size : ℕ) × IsInteger base text negative size × (given ≡ integer_of negative size))
    ⊎ (((negative : Bool) × (numerator : ℕ) × (denominator : ℕ) × IsRatio base text negative numerator denominator
    × (given ≡ ratio_of negative numerator denominator))
    ⊎ (IsFloat text × (given ≡ Err FloatToken)))
