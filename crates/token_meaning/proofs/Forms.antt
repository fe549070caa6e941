-- What is found to be a number is one by the grammar.
use Rattle.std.proofs.Common.{◌≡◌, ℕ, Bool, true, false, not, inl, inr, ◌&&◌, List, [], ◌∷◌, ◌++◌, append-nil, append_assoc, Option, None, Some, Result, Err, IfSome, refl, sym, ap, ◌∙◌}
use Rattle.std.specs.Prelude.{if◌then◌else◌}
use Rattle.std.specs.Option.{option_or}
use Rattle.std.proofs.lemmas.Bool.{eqb-true, and_parts, or_cases}
use Rattle.lisp_object.specs.Object.{Object}
use Rattle.token_meaning.specs.declared.refusal.MeaningRefusal.{MeaningRefusal}
use Rattle.token_meaning.specs.declared.refusal.MeaningRefusal.TheVariants.{FloatToken}
use Rattle.token_meaning.specs.Numerals.{is_empty, is_numeral, are_digits, numeral_value, without_sign, is_negative, cut_at_first}
use Rattle.token_meaning.specs.Numbers.{is_point, is_slash, is_exponent_marker, integer_of, ratio_of, decimal_form, ratio_form, is_pointed, is_mantissa, is_scaled, is_float, number_in_base, rational_number}
use Rattle.token_meaning.specs.Grammar.{sign_bytes, IsDigits, IsDecimal, IsRatio, IsExponent, IsFloat, IsRational, GivesNumber}
use Rattle.token_meaning.proofs.Parts.{IsCut, CutAt, cut_parts}
use Rattle.token_meaning.proofs.Signs.{has_sign}

empty : (xs : List ℕ) → is_empty xs ≡ true → xs ≡ []
empty [] e = refl
empty (x ∷ xs) e = absurd cc

-- ---- integers

pub digits_form : (base : ℕ) (text : List ℕ) → is_numeral base (without_sign text) ≡ true → IsDigits base text (is_negative text) (numeral_value base (without_sign text))
digits_form base text e =
    let sign = has_sign text in
    record { sign = sign.sign; digits = without_sign text; numeral = e; parts = sign.joined; below_zero = sign.below_zero; worth = refl }

pub decimal_is : (text : List ℕ) (parts : List ℕ × List ℕ) → IsCut is_point (without_sign text) parts → (is_numeral 10 parts.0 && is_empty parts.1) ≡ true → IsDecimal text (is_negative text) (numeral_value 10 parts.0)
decimal_is text parts at e =
    let sign = has_sign text in
    let both = and_parts (is_numeral 10 parts.0) (is_empty parts.1) e in
    let mark : at.mark ≡ 46 = eqb-true at.mark 46 at.passes in
    let rest : parts.1 ≡ [] = empty parts.1 both.1 in
    record {
      sign = sign.sign;
      digits = parts.0;
      numeral = both.0;
      parts = sign.joined ∙ ap (λ (xs : List ℕ). sign_bytes sign.sign ++ xs) (at.joined ∙ ap (λ (n : ℕ). parts.0 ++ n ∷ parts.1) mark ∙ ap (λ (xs : List ℕ). parts.0 ++ 46 ∷ xs) rest);
      below_zero = sign.below_zero;
      worth = refl;
    }

-- ---- ratios

pub ratio_is : (base : ℕ) (text : List ℕ) (parts : List ℕ × List ℕ) → IsCut is_slash (without_sign text) parts → (is_numeral base parts.0 && is_numeral base parts.1) ≡ true
    → IsRatio base text (is_negative text) (numeral_value base parts.0) (numeral_value base parts.1)
ratio_is base text parts at e =
    let sign = has_sign text in
    let both = and_parts (is_numeral base parts.0) (is_numeral base parts.1) e in
    let mark : at.mark ≡ 47 = eqb-true at.mark 47 at.passes in
    record {
      sign = sign.sign;
      above = parts.0;
      below = parts.1;
      numeral_above = both.0;
      numeral_below = both.1;
      parts = sign.joined ∙ ap (λ (xs : List ℕ). sign_bytes sign.sign ++ xs) (at.joined ∙ ap (λ (n : ℕ). parts.0 ++ n ∷ parts.1) mark);
      below_zero = sign.below_zero;
      worth_above = refl;
      worth_below = refl;
    }

-- ---- floats

pub pointed_is : (text : List ℕ) (o : Option (List ℕ × List ℕ)) → CutAt is_point (without_sign text) o → is_pointed o ≡ true → IsFloat text
pointed_is text None at e = absurd cc
pointed_is text (Some parts) at e =
    let sign = has_sign text in
    let both = and_parts (are_digits 10 parts.0) (is_numeral 10 parts.1) e in
    let mark : at.mark ≡ 46 = eqb-true at.mark 46 at.passes in
    inl (record {
      sign = sign.sign;
      whole = parts.0;
      fraction = parts.1;
      exponent = [];
      digits = both.0;
      numeral = both.1;
      scale = inl refl;
      parts = sign.joined ∙ ap (λ (xs : List ℕ). sign_bytes sign.sign ++ xs) (at.joined ∙ ap (λ (n : ℕ). parts.0 ++ n ∷ parts.1) mark ∙ ap (λ (xs : List ℕ). parts.0 ++ 46 ∷ xs) (sym (append-nil parts.1)));
    })

-- what comes after a mantissa, with the exponent marker
exponent_is : (marker : ℕ) (text : List ℕ) → is_exponent_marker marker ≡ true → is_numeral 10 (without_sign text) ≡ true → IsExponent (marker ∷ text)
exponent_is marker text e f =
    let sign = has_sign text in
    record { marker = marker; sign = sign.sign; digits = without_sign text; marks = e; numeral = f; parts = ap (λ (xs : List ℕ). marker ∷ xs) sign.joined }

-- a mantissa without a point, and with one
whole_scaled : (text mantissa exponent : List ℕ) → without_sign text ≡ mantissa ++ exponent → IsExponent exponent → is_numeral 10 mantissa ≡ true → IsFloat text
whole_scaled text mantissa exponent joined scale e =
    let sign = has_sign text in
    inr (record {
      sign = sign.sign;
      whole = mantissa;
      fraction = [];
      exponent = exponent;
      numeral = e;
      rest = inl refl;
      scale = scale;
      parts = sign.joined ∙ ap (λ (xs : List ℕ). sign_bytes sign.sign ++ xs) joined;
    })

cut_scaled : (text whole fraction exponent : List ℕ) → without_sign text ≡ whole ++ 46 ∷ (fraction ++ exponent) → IsExponent exponent
    → are_digits 10 whole ≡ true → are_digits 10 fraction ≡ true → not (is_empty whole && is_empty fraction) ≡ true → IsFloat text
cut_scaled text [] [] exponent joined scale e f some = absurd cc
cut_scaled text [] (d ∷ ds) exponent joined scale e f some =
    let sign = has_sign text in
    inl (record {
      sign = sign.sign;
      whole = [];
      fraction = d ∷ ds;
      exponent = exponent;
      digits = refl;
      numeral = f;
      scale = inr scale;
      parts = sign.joined ∙ ap (λ (xs : List ℕ). sign_bytes sign.sign ++ xs) joined;
    })
cut_scaled text (w ∷ ws) fraction exponent joined scale e f some =
    let sign = has_sign text in
    inr (record {
      sign = sign.sign;
      whole = w ∷ ws;
      fraction = 46 ∷ fraction;
      exponent = exponent;
      numeral = e;
      rest = inr (record { fraction = fraction; digits = f; parts = refl });
      scale = scale;
      parts = sign.joined ∙ ap (λ (xs : List ℕ). sign_bytes sign.sign ++ xs) joined;
    })

mantissa_is : (text mantissa exponent : List ℕ) (o : Option (List ℕ × List ℕ)) → CutAt is_point mantissa o → without_sign text ≡ mantissa ++ exponent → IsExponent exponent → is_mantissa mantissa o ≡ true → IsFloat text
mantissa_is text mantissa exponent None at joined scale e = whole_scaled text mantissa exponent joined scale e
mantissa_is text mantissa exponent (Some parts) at joined scale e =
    let first = and_parts (are_digits 10 parts.0 && are_digits 10 parts.1) (not (is_empty parts.0 && is_empty parts.1)) e in
    let both = and_parts (are_digits 10 parts.0) (are_digits 10 parts.1) first.0 in
    let mark : at.mark ≡ 46 = eqb-true at.mark 46 at.passes in
    let cut_there : mantissa ≡ parts.0 ++ 46 ∷ parts.1 = at.joined ∙ ap (λ (n : ℕ). parts.0 ++ n ∷ parts.1) mark in
    cut_scaled text parts.0 parts.1 exponent
    (joined ∙ ap (λ (xs : List ℕ). xs ++ exponent) cut_there ∙ append_assoc parts.0 (46 ∷ parts.1) exponent) scale both.0 both.1 first.1

pub scaled_is : (text : List ℕ) (o : Option (List ℕ × List ℕ)) → CutAt is_exponent_marker (without_sign text) o → is_scaled o ≡ true → IsFloat text
scaled_is text None at e = absurd cc
scaled_is text (Some parts) at e =
    let both = and_parts (is_mantissa parts.0 (cut_at_first is_point parts.0)) (is_numeral 10 (without_sign parts.1)) e in
    mantissa_is text parts.0 (at.mark ∷ parts.1) (cut_at_first is_point parts.0) (cut_parts is_point parts.0) at.joined (exponent_is at.mark parts.1 at.passes both.1) both.0

float_is : (text : List ℕ) → is_float (without_sign text) ≡ true → IsFloat text
float_is text e =
    elim (or_cases (is_pointed (cut_at_first is_point (without_sign text))) (is_scaled (cut_at_first is_exponent_marker (without_sign text))) e) [
      | inl f ↦ pointed_is text _ (cut_parts is_point (without_sign text)) f
      | inr f ↦ scaled_is text _ (cut_parts is_exponent_marker (without_sign text)) f
    ]

-- ---- numbers

Found : ℕ → List ℕ → Option (Result Object MeaningRefusal) → Type 0
Found base text o = IfSome o (GivesNumber base text)

first_found : (base : ℕ) (text : List ℕ) (o p : Option (Result Object MeaningRefusal)) → IfSome o (GivesNumber base text) → IfSome p (GivesNumber base text) → IfSome (option_or o p) (GivesNumber base text)
first_found base text None p f g = g
first_found base text (Some given) p f g = f

integer_found : (base : ℕ) (text : List ℕ) (b : Bool) → is_numeral base (without_sign text) ≡ b
    → IfSome (if b then Some (integer_of (is_negative text) (numeral_value base (without_sign text))) else None) (GivesNumber base text)
integer_found base text true e = inl (is_negative text, numeral_value base (without_sign text), inl (digits_form base text e), refl)
integer_found base text false e = tt

decimal_cases : (base : ℕ) (text : List ℕ) (parts : List ℕ × List ℕ) → IsCut is_point (without_sign text) parts → (b : Bool) → (is_numeral 10 parts.0 && is_empty parts.1) ≡ b
    → IfSome (if b then Some (integer_of (is_negative text) (numeral_value 10 parts.0)) else None) (GivesNumber base text)
decimal_cases base text parts at true e = inl (is_negative text, numeral_value 10 parts.0, inr (decimal_is text parts at e), refl)
decimal_cases base text parts at false e = tt

decimal_found : (base : ℕ) (text : List ℕ) (o : Option (List ℕ × List ℕ)) → CutAt is_point (without_sign text) o → IfSome (decimal_form (is_negative text) o) (GivesNumber base text)
decimal_found base text None at = tt
decimal_found base text (Some parts) at = decimal_cases base text parts at (is_numeral 10 parts.0 && is_empty parts.1) refl

ratio_cases : (base : ℕ) (text : List ℕ) (parts : List ℕ × List ℕ) → IsCut is_slash (without_sign text) parts → (b : Bool) → (is_numeral base parts.0 && is_numeral base parts.1) ≡ b
    → IfSome (if b then Some (ratio_of (is_negative text) (numeral_value base parts.0) (numeral_value base parts.1)) else None) (GivesNumber base text)
ratio_cases base text parts at true e = inr (inl (is_negative text, numeral_value base parts.0, numeral_value base parts.1, ratio_is base text parts at e, refl))
ratio_cases base text parts at false e = tt

ratio_found : (base : ℕ) (text : List ℕ) (o : Option (List ℕ × List ℕ)) → CutAt is_slash (without_sign text) o → IfSome (ratio_form base (is_negative text) o) (GivesNumber base text)
ratio_found base text None at = tt
ratio_found base text (Some parts) at = ratio_cases base text parts at (is_numeral base parts.0 && is_numeral base parts.1) refl

float_cases : (base : ℕ) (text : List ℕ) (b : Bool) → is_float (without_sign text) ≡ b → IfSome (if b then Some (Err FloatToken) else None) (GivesNumber base text)
float_cases base text true e = inr (inr (float_is text e, refl))
float_cases base text false e = tt

pub found : (base : ℕ) (text : List ℕ) → IfSome (number_in_base base text) (GivesNumber base text)
found base text =
    let body = without_sign text in
    first_found base text _ _
    (first_found base text _ _ (integer_found base text (is_numeral base body) refl) (ratio_found base text _ (cut_parts is_slash body)))
    (first_found base text _ _ (decimal_found base text _ (cut_parts is_point body)) (float_cases base text (is_float body) refl))

-- ---- rationals of digits alone

first_rational : (base : ℕ) (text : List ℕ) (o p : Option (Result Object MeaningRefusal)) → IfSome o (IsRational base text) → IfSome p (IsRational base text) → IfSome (option_or o p) (IsRational base text)
first_rational base text None p f g = g
first_rational base text (Some given) p f g = f

digits_rational : (base : ℕ) (text : List ℕ) (b : Bool) → is_numeral base (without_sign text) ≡ b
    → IfSome (if b then Some (integer_of (is_negative text) (numeral_value base (without_sign text))) else None) (IsRational base text)
digits_rational base text true e = inl (is_negative text, numeral_value base (without_sign text), digits_form base text e, refl)
digits_rational base text false e = tt

ratio_choice : (base : ℕ) (text : List ℕ) (parts : List ℕ × List ℕ) → IsCut is_slash (without_sign text) parts → (b : Bool) → (is_numeral base parts.0 && is_numeral base parts.1) ≡ b
    → IfSome (if b then Some (ratio_of (is_negative text) (numeral_value base parts.0) (numeral_value base parts.1)) else None) (IsRational base text)
ratio_choice base text parts at true e = inr (is_negative text, numeral_value base parts.0, numeral_value base parts.1, ratio_is base text parts at e, refl)
ratio_choice base text parts at false e = tt

ratio_rational : (base : ℕ) (text : List ℕ) (o : Option (List ℕ × List ℕ)) → CutAt is_slash (without_sign text) o → IfSome (ratio_form base (is_negative text) o) (IsRational base text)
ratio_rational base text None at = tt
ratio_rational base text (Some parts) at = ratio_choice base text parts at (is_numeral base parts.0 && is_numeral base parts.1) refl

pub rational_found : (base : ℕ) (text : List ℕ) → IfSome (rational_number base text) (IsRational base text)
rational_found base text =
    let body = without_sign text in
    first_rational base text _ _ (digits_rational base text (is_numeral base body) refl) (ratio_rational base text _ (cut_parts is_slash body))
