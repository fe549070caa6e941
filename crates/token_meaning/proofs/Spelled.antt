-- What is a number by the grammar is found to be one.
use Rattle.std.proofs.Common.{◌≡◌, ℕ, ◌≤◌, Bool, true, false, not, inl, inr, lit≤, ◌&&◌, ◌||◌, List, [], ◌∷◌, ◌++◌, append-nil, append_assoc, Option, None, Some, Result, Err, refl, sym, ap, subst, ◌∙◌}
use Rattle.std.specs.Prelude.{if◌then◌else◌}
use Rattle.std.specs.List.{list_any}
use Rattle.std.specs.Option.{option_or}
use Rattle.std.proofs.lemmas.Bool.{and_from, and_left, and_right, cases_Bool, both_ways}
use Rattle.std.proofs.lemmas.List.Folds.{list_any-append}
use Rattle.lisp_object.specs.Object.{Object}
use Rattle.token_meaning.specs.declared.refusal.MeaningRefusal.{MeaningRefusal}
use Rattle.token_meaning.specs.declared.refusal.MeaningRefusal.TheVariants.{FloatToken}
use Rattle.token_meaning.specs.Numerals.{is_empty, is_numeral, are_digits, numeral_value, without_sign, is_negative, cut_at_first}
use Rattle.token_meaning.specs.Numbers.{is_point, is_slash, is_exponent_marker, integer_of, ratio_of, decimal_form, ratio_form, is_pointed, is_mantissa, is_scaled, is_float, rational_form, unsigned_number, number_in_base, rational_number}
use Rattle.token_meaning.specs.Grammar.{Sign, absent, plus, minus, sign_bytes, is_minus, IsDigits, IsDecimal, IsInteger, IsRatio, IsExponent, IsPointed, IsScaled, IsFloat}
use Rattle.token_meaning.proofs.Parts.{cut_with, cut_without, CutAt, cut_parts}
use Rattle.token_meaning.proofs.Signs.{is_signed, behind_sign}
use Rattle.token_meaning.proofs.Digits.{point_no_digit, slash_no_digit, marker_no_digit, marker_no_slash, none_among, mixed, numeral_digits, numeral_some, numeral_unsigned, digits_unsigned}
use Rattle.token_meaning.proofs.Forms.{digits_form, decimal_is}

-- ---- the forms in turn

at_body : (base : ℕ) (text : List ℕ) (sign : Sign) (body : List ℕ) (negative : Bool) → text ≡ sign_bytes sign ++ body → is_signed body ≡ false → negative ≡ is_minus sign
    → number_in_base base text ≡ unsigned_number base negative body
at_body base text sign body negative parts first below =
    let both = behind_sign sign body first in
    let minus_there : is_negative text ≡ negative = ap is_negative parts ∙ both.1 ∙ sym below in
    let body_there : without_sign text ≡ body = ap without_sign parts ∙ both.0 in
    ap (λ (b : Bool). unsigned_number base b (without_sign text)) minus_there ∙ ap (λ (xs : List ℕ). unsigned_number base negative xs) body_there

rational_body : (base : ℕ) (text : List ℕ) (sign : Sign) (body : List ℕ) (negative : Bool) → text ≡ sign_bytes sign ++ body → is_signed body ≡ false → negative ≡ is_minus sign
    → rational_number base text ≡ rational_form base negative body
rational_body base text sign body negative parts first below =
    let both = behind_sign sign body first in
    let minus_there : is_negative text ≡ negative = ap is_negative parts ∙ both.1 ∙ sym below in
    let body_there : without_sign text ≡ body = ap without_sign parts ∙ both.0 in
    ap (λ (b : Bool). rational_form base b (without_sign text)) minus_there ∙ ap (λ (xs : List ℕ). rational_form base negative xs) body_there

taken : (b : Bool) (given : Result Object MeaningRefusal) → b ≡ true → (if b then Some given else None) ≡ Some given
taken b given e = rw e refl

passed_over : (b : Bool) (given : Result Object MeaningRefusal) → b ≡ false → (if b then Some given else None) ≡ None
passed_over b given e = rw e refl

by_first : (o p : Option (Result Object MeaningRefusal)) (given : Result Object MeaningRefusal) → o ≡ Some given → option_or o p ≡ Some given
by_first o p given e = rw e refl

both_none : (o p : Option (Result Object MeaningRefusal)) → o ≡ None → p ≡ None → option_or o p ≡ None
both_none o p e f = rw (e, f) refl

by_second : (o p : Option (Result Object MeaningRefusal)) (given : Result Object MeaningRefusal) → o ≡ None → p ≡ Some given → option_or o p ≡ Some given
by_second o p given e f = rw (e, f) refl

-- ---- integers

pub digits_given : (base : ℕ) (text : List ℕ) (negative : Bool) (size : ℕ) → base ≤ 36 → IsDigits base text negative size → number_in_base base text ≡ Some (integer_of negative size)
digits_given base text negative size top h =
    let unsigned : is_signed h.digits ≡ false = subst (λ (xs : List ℕ). is_signed xs ≡ false) (append-nil h.digits) (numeral_unsigned base h.digits [] top h.numeral) in
    at_body base text h.sign h.digits negative h.parts unsigned h.below_zero
    ∙ by_first _ _ _ (by_first _ _ _ (taken (is_numeral base h.digits) _ h.numeral))
    ∙ ap (λ (n : ℕ). Some (integer_of negative n)) (sym h.worth)

-- digits hold no point and no slash
no_point : (base : ℕ) (ds : List ℕ) → base ≤ 36 → are_digits base ds ≡ true → list_any is_point ds ≡ false
no_point base ds top e = none_among base is_point (λ c f. point_no_digit base c top f) ds e

no_slash : (base : ℕ) (ds : List ℕ) → base ≤ 36 → are_digits base ds ≡ true → list_any is_slash ds ≡ false
no_slash base ds top e = none_among base is_slash (λ c f. slash_no_digit base c top f) ds e

no_marker : (ds : List ℕ) → are_digits 10 ds ≡ true → list_any is_exponent_marker ds ≡ false
no_marker ds e = none_among 10 is_exponent_marker marker_no_digit ds e

none_in : (p : ℕ → Bool) (xs : List ℕ) (y : ℕ) (ys : List ℕ) → list_any p xs ≡ false → p y ≡ false → list_any p ys ≡ false → list_any p (xs ++ y ∷ ys) ≡ false
none_in p xs y ys before here behind = list_any-append p xs (y ∷ ys) ∙ (rw (before, here, behind) refl)

pub decimal_given : (base : ℕ) (text : List ℕ) (negative : Bool) (size : ℕ) → base ≤ 36 → IsDecimal text negative size → number_in_base base text ≡ Some (integer_of negative size)
decimal_given base text negative size top h =
    let digits = numeral_digits 10 h.digits h.numeral in
    let no_cut : cut_at_first is_slash (h.digits ++ 46 ∷ []) ≡ None = cut_without is_slash (h.digits ++ 46 ∷ []) (none_in is_slash h.digits 46 [] (no_slash 10 h.digits (lit≤ tt) digits) refl refl) in
    let there : cut_at_first is_point (h.digits ++ 46 ∷ []) ≡ Some (h.digits, []) = cut_with is_point h.digits 46 [] (no_point 10 h.digits (lit≤ tt) digits) refl in
    at_body base text h.sign (h.digits ++ 46 ∷ []) negative h.parts (digits_unsigned h.digits [] digits) h.below_zero
    ∙ by_second _ _ _ (both_none _ _ (passed_over (is_numeral base (h.digits ++ 46 ∷ [])) _ (mixed base h.digits 46 [] (point_no_digit base 46 top refl)))
    (ap (ratio_form base negative) no_cut))
    (by_first _ _ _ (ap (decimal_form negative) there ∙ taken (is_numeral 10 h.digits && true) _ (and_from _ _ h.numeral refl)))
    ∙ ap (λ (n : ℕ). Some (integer_of negative n)) (sym h.worth)

-- ---- ratios

pub ratio_given : (base : ℕ) (text : List ℕ) (negative : Bool) (numerator denominator : ℕ) → base ≤ 36 → IsRatio base text negative numerator denominator
    → number_in_base base text ≡ Some (ratio_of negative numerator denominator)
ratio_given base text negative numerator denominator top h =
    let above = numeral_digits base h.above h.numeral_above in
    let below = numeral_digits base h.below h.numeral_below in
    let there : cut_at_first is_slash (h.above ++ 47 ∷ h.below) ≡ Some (h.above, h.below) = cut_with is_slash h.above 47 h.below (no_slash base h.above top above) refl in
    at_body base text h.sign (h.above ++ 47 ∷ h.below) negative h.parts (numeral_unsigned base h.above (47 ∷ h.below) top h.numeral_above) h.below_zero
    ∙ by_first _ _ _ (by_second _ _ _ (passed_over (is_numeral base (h.above ++ 47 ∷ h.below)) _ (mixed base h.above 47 h.below (slash_no_digit base 47 top refl)))
    (ap (ratio_form base negative) there ∙ taken (is_numeral base h.above && is_numeral base h.below) _ (and_from _ _ h.numeral_above h.numeral_below)))
    ∙ ap (λ (p : ℕ × ℕ). Some (ratio_of negative p.0 p.1)) (let both : (numeral_value base h.above, numeral_value base h.below) ≡ (numerator, denominator) = rw (h.worth_above, h.worth_below) refl in both)

-- ---- the rationals of digits alone

pub rational_of_digits : (base : ℕ) (text : List ℕ) (negative : Bool) (size : ℕ) → base ≤ 36 → IsDigits base text negative size → rational_number base text ≡ Some (integer_of negative size)
rational_of_digits base text negative size top h =
    let unsigned : is_signed h.digits ≡ false = subst (λ (xs : List ℕ). is_signed xs ≡ false) (append-nil h.digits) (numeral_unsigned base h.digits [] top h.numeral) in
    rational_body base text h.sign h.digits negative h.parts unsigned h.below_zero
    ∙ by_first _ _ _ (taken (is_numeral base h.digits) _ h.numeral)
    ∙ ap (λ (n : ℕ). Some (integer_of negative n)) (sym h.worth)

pub rational_of_ratio : (base : ℕ) (text : List ℕ) (negative : Bool) (numerator denominator : ℕ) → base ≤ 36 → IsRatio base text negative numerator denominator
    → rational_number base text ≡ Some (ratio_of negative numerator denominator)
rational_of_ratio base text negative numerator denominator top h =
    let above = numeral_digits base h.above h.numeral_above in
    let there : cut_at_first is_slash (h.above ++ 47 ∷ h.below) ≡ Some (h.above, h.below) = cut_with is_slash h.above 47 h.below (no_slash base h.above top above) refl in
    rational_body base text h.sign (h.above ++ 47 ∷ h.below) negative h.parts (numeral_unsigned base h.above (47 ∷ h.below) top h.numeral_above) h.below_zero
    ∙ by_second _ _ _ (passed_over (is_numeral base (h.above ++ 47 ∷ h.below)) _ (mixed base h.above 47 h.below (slash_no_digit base 47 top refl)))
    (ap (ratio_form base negative) there ∙ taken (is_numeral base h.above && is_numeral base h.below) _ (and_from _ _ h.numeral_above h.numeral_below))
    ∙ ap (λ (p : ℕ × ℕ). Some (ratio_of negative p.0 p.1)) (let both : (numeral_value base h.above, numeral_value base h.below) ≡ (numerator, denominator) = rw (h.worth_above, h.worth_below) refl in both)

-- ---- floats

abbrev pub NoInteger : ℕ → List ℕ → Type 0
NoInteger base text = (negative : Bool) (size : ℕ) → IsInteger base text negative size → ⊥

no_decimal : (base : ℕ) (text : List ℕ) (o : Option (List ℕ × List ℕ)) → NoInteger base text → CutAt is_point (without_sign text) o → decimal_form (is_negative text) o ≡ None
no_decimal base text None none at = refl
no_decimal base text (Some parts) none at =
    elim (cases_Bool (is_numeral 10 parts.0 && is_empty parts.1)) [
      | inl e ↦ absurd (none _ _ (inr (decimal_is text parts at e)))
      | inr e ↦ passed_over (is_numeral 10 parts.0 && is_empty parts.1) (integer_of (is_negative text) (numeral_value 10 parts.0)) e
    ]

no_digits : (base : ℕ) (text : List ℕ) → NoInteger base text → is_numeral base (without_sign text) ≡ false
no_digits base text none =
    elim (cases_Bool (is_numeral base (without_sign text))) [
      | inl e ↦ absurd (none _ _ (inl (digits_form base text e)))
      | inr e ↦ e
    ]

-- what comes after the sign of a float
record IsFloating (body : List ℕ) : Type 0 where
  first : is_signed body ≡ false
  slash : list_any is_slash body ≡ false
  float : is_float body ≡ true

float_body : (base : ℕ) (text : List ℕ) (sign : Sign) (body : List ℕ) → text ≡ sign_bytes sign ++ body → NoInteger base text → IsFloating body
    → number_in_base base text ≡ Some (Err FloatToken)
float_body base text sign body parts none h =
    let there : without_sign text ≡ body = ap without_sign parts ∙ (behind_sign sign body h.first).0 in
    let slash : list_any is_slash (without_sign text) ≡ false = ap (list_any is_slash) there ∙ h.slash in
    let float : is_float (without_sign text) ≡ true = ap is_float there ∙ h.float in
    by_second _ _ _ (both_none _ _ (passed_over (is_numeral base (without_sign text)) _ (no_digits base text none))
    (ap (ratio_form base (is_negative text)) (cut_without is_slash (without_sign text) slash)))
    (by_second _ _ _ (no_decimal base text (cut_at_first is_point (without_sign text)) none (cut_parts is_point (without_sign text)))
    (taken (is_float (without_sign text)) _ float))

or_left : (x y : Bool) → x ≡ true → (x || y) ≡ true
or_left x y e = rw e refl

or_right : (x y : Bool) → y ≡ true → (x || y) ≡ true
or_right true y e = refl
or_right false y e = e

-- digits, a point and digits
pointed_floating : (whole fraction : List ℕ) → are_digits 10 whole ≡ true → is_numeral 10 fraction ≡ true → IsFloating (whole ++ 46 ∷ fraction)
pointed_floating whole fraction e f =
    let there : cut_at_first is_point (whole ++ 46 ∷ fraction) ≡ Some (whole, fraction) = cut_with is_point whole 46 fraction (no_point 10 whole (lit≤ tt) e) refl in
    record {
      first = digits_unsigned whole fraction e;
      slash = none_in is_slash whole 46 fraction (no_slash 10 whole (lit≤ tt) e) refl (no_slash 10 fraction (lit≤ tt) (numeral_digits 10 fraction f));
      float = or_left _ _ (ap is_pointed there ∙ and_from (are_digits 10 whole) (is_numeral 10 fraction) e f);
    }

-- what is before an exponent
record IsMantissa (text : List ℕ) : Type 0 where
  first : (rest : List ℕ) → is_signed (text ++ rest) ≡ false
  slash : list_any is_slash text ≡ false
  marker : list_any is_exponent_marker text ≡ false
  form : is_mantissa text (cut_at_first is_point text) ≡ true

whole_mantissa : (whole : List ℕ) → is_numeral 10 whole ≡ true → IsMantissa whole
whole_mantissa whole e =
    let digits = numeral_digits 10 whole e in
    record {
      first = λ rest. numeral_unsigned 10 whole rest (lit≤ tt) e;
      slash = no_slash 10 whole (lit≤ tt) digits;
      marker = no_marker whole digits;
      form = ap (is_mantissa whole) (cut_without is_point whole (no_point 10 whole (lit≤ tt) digits)) ∙ e;
    }

cut_mantissa : (whole fraction : List ℕ) → are_digits 10 whole ≡ true → are_digits 10 fraction ≡ true → (is_empty whole && is_empty fraction) ≡ false → IsMantissa (whole ++ 46 ∷ fraction)
cut_mantissa whole fraction e f some =
    let there : cut_at_first is_point (whole ++ 46 ∷ fraction) ≡ Some (whole, fraction) = cut_with is_point whole 46 fraction (no_point 10 whole (lit≤ tt) e) refl in
    let kept : not (is_empty whole && is_empty fraction) ≡ true = ap not some in
    record {
      first = λ rest. subst (λ (xs : List ℕ). is_signed xs ≡ false) (sym (append_assoc whole (46 ∷ fraction) rest)) (digits_unsigned whole (fraction ++ rest) e);
      slash = none_in is_slash whole 46 fraction (no_slash 10 whole (lit≤ tt) e) refl (no_slash 10 fraction (lit≤ tt) f);
      marker = none_in is_exponent_marker whole 46 fraction (no_marker whole e) refl (no_marker fraction f);
      form = ap (is_mantissa (whole ++ 46 ∷ fraction)) there ∙ and_from _ _ (and_from (are_digits 10 whole) (are_digits 10 fraction) e f) kept;
    }

no_slash_signed : (sign : Sign) (ds : List ℕ) → list_any is_slash ds ≡ false → list_any is_slash (sign_bytes sign ++ ds) ≡ false
no_slash_signed absent ds e = e
no_slash_signed plus ds e = e
no_slash_signed minus ds e = e

behind_marker : (sign : Sign) (digits : List ℕ) → is_numeral 10 digits ≡ true → is_numeral 10 (without_sign (sign_bytes sign ++ digits)) ≡ true
behind_marker sign digits e =
    let unsigned : is_signed digits ≡ false = subst (λ (xs : List ℕ). is_signed xs ≡ false) (append-nil digits) (numeral_unsigned 10 digits [] (lit≤ tt) e) in
    ap (is_numeral 10) (behind_sign sign digits unsigned).0 ∙ e

marked_floating : (mantissa : List ℕ) (marker : ℕ) (sign : Sign) (digits : List ℕ) → IsMantissa mantissa → is_exponent_marker marker ≡ true → is_numeral 10 digits ≡ true
    → IsFloating (mantissa ++ marker ∷ (sign_bytes sign ++ digits))
marked_floating mantissa marker sign digits h e f =
    let tail = sign_bytes sign ++ digits in
    let there : cut_at_first is_exponent_marker (mantissa ++ marker ∷ tail) ≡ Some (mantissa, tail) = cut_with is_exponent_marker mantissa marker tail h.marker e in
    record {
      first = h.first (marker ∷ tail);
      slash = none_in is_slash mantissa marker tail h.slash (marker_no_slash marker e) (no_slash_signed sign digits (no_slash 10 digits (lit≤ tt) (numeral_digits 10 digits f)));
      float = or_right _ _ (ap is_scaled there ∙ and_from _ _ h.form (behind_marker sign digits f));
    }

scaled_floating : (mantissa exponent : List ℕ) → IsMantissa mantissa → IsExponent exponent → IsFloating (mantissa ++ exponent)
scaled_floating mantissa exponent h scale =
    subst (λ (xs : List ℕ). IsFloating (mantissa ++ xs)) (sym scale.parts) (marked_floating mantissa scale.marker scale.sign scale.digits h scale.marks scale.numeral)

pointed_body : (text : List ℕ) → (p : IsPointed text) → IsFloating (p.whole ++ 46 ∷ (p.fraction ++ p.exponent))
pointed_body text p =
    elim p.scale [
      | inl none ↦ subst (λ (xs : List ℕ). IsFloating (p.whole ++ 46 ∷ xs)) (sym (ap (λ (xs : List ℕ). p.fraction ++ xs) none ∙ append-nil p.fraction)) (pointed_floating p.whole p.fraction p.digits p.numeral)
      | inr scale ↦ subst IsFloating (append_assoc p.whole (46 ∷ p.fraction) p.exponent)
          (scaled_floating (p.whole ++ 46 ∷ p.fraction) p.exponent
          (cut_mantissa p.whole p.fraction p.digits (numeral_digits 10 p.fraction p.numeral) (and_right (is_empty p.whole) _ (numeral_some 10 p.fraction p.numeral))) scale)
    ]

scaled_body : (text : List ℕ) → (p : IsScaled text) → IsFloating (p.whole ++ (p.fraction ++ p.exponent))
scaled_body text p =
    elim p.rest [
      | inl none ↦ subst (λ (xs : List ℕ). IsFloating (p.whole ++ (xs ++ p.exponent))) (sym none) (scaled_floating p.whole p.exponent (whole_mantissa p.whole p.numeral) p.scale)
      | inr more ↦ subst (λ (xs : List ℕ). IsFloating (p.whole ++ (xs ++ p.exponent))) (sym more.parts)
          (subst IsFloating (append_assoc p.whole (46 ∷ more.fraction) p.exponent)
          (scaled_floating (p.whole ++ 46 ∷ more.fraction) p.exponent
          (cut_mantissa p.whole more.fraction (numeral_digits 10 p.whole p.numeral) more.digits (and_left _ (is_empty more.fraction) (numeral_some 10 p.whole p.numeral))) p.scale))
    ]

pub float_given : (base : ℕ) (text : List ℕ) → IsFloat text → NoInteger base text → number_in_base base text ≡ Some (Err FloatToken)
float_given base text (inl p) none = float_body base text p.sign _ p.parts none (pointed_body text p)
float_given base text (inr p) none = float_body base text p.sign _ p.parts none (scaled_body text p)

-- ---- a ratio alone has a slash

slash_behind : (text : List ℕ) (sign : Sign) (body : List ℕ) → text ≡ sign_bytes sign ++ body → list_any is_slash text ≡ list_any is_slash body
slash_behind text absent body e = ap (list_any is_slash) e
slash_behind text plus body e = ap (list_any is_slash) e
slash_behind text minus body e = ap (list_any is_slash) e

ratio_slash : (base : ℕ) (text : List ℕ) (negative : Bool) (numerator denominator : ℕ) → IsRatio base text negative numerator denominator → list_any is_slash text ≡ true
ratio_slash base text negative numerator denominator h =
    slash_behind text h.sign (h.above ++ 47 ∷ h.below) h.parts ∙ list_any-append is_slash h.above (47 ∷ h.below) ∙ or_right (list_any is_slash h.above) true refl

integer_slash : (base : ℕ) (text : List ℕ) (negative : Bool) (size : ℕ) → base ≤ 36 → IsInteger base text negative size → list_any is_slash text ≡ false
integer_slash base text negative size top (inl h) = slash_behind text h.sign h.digits h.parts ∙ no_slash base h.digits top (numeral_digits base h.digits h.numeral)
integer_slash base text negative size top (inr h) =
    slash_behind text h.sign (h.digits ++ 46 ∷ []) h.parts ∙ none_in is_slash h.digits 46 [] (no_slash 10 h.digits (lit≤ tt) (numeral_digits 10 h.digits h.numeral)) refl refl

float_slash : (text : List ℕ) → IsFloat text → list_any is_slash text ≡ false
float_slash text (inl p) = slash_behind text p.sign _ p.parts ∙ (pointed_body text p).slash
float_slash text (inr p) = slash_behind text p.sign _ p.parts ∙ (scaled_body text p).slash

pub ratio_no_integer : (base : ℕ) (text : List ℕ) (negative : Bool) (numerator denominator : ℕ) → base ≤ 36 → IsRatio base text negative numerator denominator → NoInteger base text
ratio_no_integer base text negative numerator denominator top h other size k =
    both_ways _ (integer_slash base text other size top k) (ratio_slash base text negative numerator denominator h)

pub ratio_no_float : (base : ℕ) (text : List ℕ) (negative : Bool) (numerator denominator : ℕ) → IsRatio base text negative numerator denominator → IsFloat text → ⊥
ratio_no_float base text negative numerator denominator h k = both_ways _ (float_slash text k) (ratio_slash base text negative numerator denominator h)
