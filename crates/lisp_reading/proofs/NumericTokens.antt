-- The object that a token means as a number is a number.
use Rattle.std.proofs.Common.{ℕ, ◌^◌, ◌/◌, ℤ, pos, Bool, true, false, List, Option, Some, None, Result, Ok, Err}
use Rattle.std.specs.Prelude.{nat_lt, ◌&&◌, ◌||◌, ◌==◌, if◌then◌else◌, unsigned_abs, int_div}
use Rattle.std.specs.Option.{option_or, ok_or}
use Rattle.lisp_object.specs.Object as o
use Rattle.lisp_object.specs.Object.{Object}
use Rattle.lisp_object.specs.Quotient.{divided, gcd, quotient}
use Rattle.token_meaning.specs.declared.refusal.MeaningRefusal.{MeaningRefusal}
use Rattle.token_meaning.specs.declared.refusal.MeaningRefusal.TheVariants.{NumberRange, ZeroDenominator, FloatToken}
use Rattle.token_meaning.specs.Numbers.{integer_of, ratio_of, integer_form, decimal_form, ratio_form, float_form, is_float, rational_form, decimal_or_float_form, number_in_base, is_slash, is_point}
use Rattle.token_meaning.specs.Numerals.{is_empty, is_numeral, numeral_value, without_sign, is_negative, signed, is_magnitude_in_range, cut_at_first}

-- of the objects that a number may be, P holds
abbrev OfNumber : (Object → Type 0) → Option (Result Object MeaningRefusal) → Type 0
OfNumber P None = Unit {0}
OfNumber P (Some (Ok x)) = P x
OfNumber P (Some (Err refusal)) = Unit {0}

-- an integer or a ratio
abbrev pub IsNumber : Object → Type 0
IsNumber (o.integer n) = Unit {0}
IsNumber (o.rational n d) = Unit {0}
IsNumber _ = ⊥

-- a number, or nothing, or a refusal
abbrev pub Numeric : Option (Result Object MeaningRefusal) → Type 0
Numeric = OfNumber IsNumber

pub chosen_numeric : (b : Bool) (v w : Option (Result Object MeaningRefusal)) → Numeric v → Numeric w → Numeric (if b then v else w)
chosen_numeric true v w p q = p
chosen_numeric false v w p q = q

first_numeric : (v w : Option (Result Object MeaningRefusal)) → Numeric v → Numeric w → Numeric (option_or v w)
first_numeric (Some r) w p q = p
first_numeric None w p q = q

integer_numeric : (negative : Bool) (size : ℕ) → Numeric (Some (integer_of negative size))
integer_numeric negative size =
    elim (is_magnitude_in_range negative size) as (λ b. Numeric (Some (if b then Ok (o.integer (signed negative size)) else Err NumberRange))) [ true ↦ tt | false ↦ tt ]

quotient_numeric : (n : ℤ) (d : ℕ) → Numeric (Some (ok_or (quotient n d) ZeroDenominator))
quotient_numeric n d =
    let g = gcd (unsigned_abs n) d in
    elim (d == 0) as (λ b. Numeric (Some (ok_or (if b then None else Some (divided n d g)) ZeroDenominator))) [
      | true ↦ tt
      | false ↦ elim (d / g == 1) as (λ b. IsNumber (if b then o.integer (int_div n (pos g)) else o.rational (int_div n (pos g)) (d / g))) [ true ↦ tt | false ↦ tt ]
    ]

ratio_numeric : (negative : Bool) (n d : ℕ) → Numeric (Some (ratio_of negative n d))
ratio_numeric negative n d =
    elim (d == 0 || (is_magnitude_in_range negative n && nat_lt d (2 ^ 128))) as (λ b. Numeric (Some (if b then ok_or (quotient (signed negative n) d) ZeroDenominator else Err NumberRange))) [
      | true ↦ quotient_numeric (signed negative n) d
      | false ↦ tt
    ]

decimal_numeric : (negative : Bool) (parts : Option (List ℕ × List ℕ)) → Numeric (decimal_form negative parts)
decimal_numeric negative None = tt
decimal_numeric negative (Some (whole, fraction)) =
    chosen_numeric (is_numeral 10 whole && is_empty fraction) (Some (integer_of negative (numeral_value 10 whole))) None (integer_numeric negative (numeral_value 10 whole)) tt

ratio_form_numeric : (base : ℕ) (negative : Bool) (parts : Option (List ℕ × List ℕ)) → Numeric (ratio_form base negative parts)
ratio_form_numeric base negative None = tt
ratio_form_numeric base negative (Some (n, d)) =
    chosen_numeric (is_numeral base n && is_numeral base d) (Some (ratio_of negative (numeral_value base n) (numeral_value base d))) None (ratio_numeric negative (numeral_value base n) (numeral_value base d)) tt

pub rational_numeric : (base : ℕ) (negative : Bool) (text : List ℕ) → Numeric (rational_form base negative text)
rational_numeric base negative text =
    first_numeric (integer_form base negative text) (ratio_form base negative (cut_at_first is_slash text))
    (chosen_numeric (is_numeral base text) (Some (integer_of negative (numeral_value base text))) None (integer_numeric negative (numeral_value base text)) tt)
    (ratio_form_numeric base negative (cut_at_first is_slash text))

pub number_numeric : (base : ℕ) (text : List ℕ) → Numeric (number_in_base base text)
number_numeric base text =
    let body = without_sign text in
    first_numeric (rational_form base (is_negative text) body) (decimal_or_float_form (is_negative text) body) (rational_numeric base (is_negative text) body)
    (first_numeric (decimal_form (is_negative text) (cut_at_first is_point body)) (float_form body) (decimal_numeric (is_negative text) (cut_at_first is_point body))
    (chosen_numeric (is_float body) (Some (Err FloatToken)) None tt tt))
