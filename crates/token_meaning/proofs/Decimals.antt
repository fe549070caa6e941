-- What the definition of decimal integers and floats gives of decimal digits and what comes after them.
use Rattle.std.proofs.Common.{◌≡◌, ℕ, ◌≤◌, lit≤, Bool, true, false, not, ◌&&◌, ◌||◌, List, [], ◌∷◌, ◌++◌, Option, None, Some, Result, Err, refl, sym, ap, subst, ◌∙◌, append-nil, append_assoc}
use Rattle.std.specs.Prelude.{if◌then◌else◌, ◌==◌}
use Rattle.std.specs.List.{list_any, list_all}
use Rattle.std.specs.Option.{option_map, option_or}
use Rattle.std.proofs.lemmas.Bool.{and_from, and_left, and_right, eqb-true}
use Rattle.std.proofs.lemmas.List.Folds.{list_all-append}
use Rattle.lisp_object.specs.Object.{Object}
use Rattle.token_meaning.specs.declared.refusal.MeaningRefusal.{MeaningRefusal}
use Rattle.token_meaning.specs.declared.refusal.MeaningRefusal.TheVariants.{FloatToken}
use Rattle.token_meaning.specs.Numerals.{is_digit_in, is_empty, are_digits, is_numeral, numeral_value, without_sign, cut_at_first}
use Rattle.token_meaning.specs.Numbers.{is_point, is_exponent_marker, integer_of, decimal_form, is_pointed, is_mantissa, is_scaled, is_float, decimal_or_float_form}
use Rattle.token_meaning.specs.Leading.{begins_with_digit, IsLeading, after_code, is_exponent}
use Rattle.token_meaning.proofs.Parts.{cut_with, cut_without, cut_past, onto_front}
use Rattle.token_meaning.proofs.Digits.{point_no_digit, marker_no_digit, none_among, mixed}

no_point : (ds : List ℕ) → are_digits 10 ds ≡ true → list_any is_point ds ≡ false
no_point ds e = none_among 10 is_point (λ c f. point_no_digit 10 c (lit≤ tt) f) ds e

no_marker : (ds : List ℕ) → are_digits 10 ds ≡ true → list_any is_exponent_marker ds ≡ false
no_marker ds e = none_among 10 is_exponent_marker marker_no_digit ds e

not_all : (xs : List ℕ) (c : ℕ) (ys : List ℕ) → is_digit_in 10 c ≡ false → are_digits 10 (xs ++ c ∷ ys) ≡ false
not_all xs c ys e = list_all-append (is_digit_in 10) xs (c ∷ ys) ∙ and_right (are_digits 10 xs) _ (and_left (is_digit_in 10 c) _ e)

all_of : (b : Bool) (ds : List ℕ) → are_digits 10 ds ≡ true → (are_digits 10 ds && b) ≡ b
all_of b ds e = rw e refl

-- what comes after the digits is no digit and no point
abbrev pub IsApart : List ℕ → Type 0
IsApart [] = Unit {0}
IsApart (c ∷ cs) = (is_digit_in 10 c ≡ false) × (is_point c ≡ false)

-- ---- without a point after the digits

-- what is cut at a point further on has no digit before it
far_point : (ds : List ℕ) (c : ℕ) (o : Option (List ℕ × List ℕ)) → is_digit_in 10 c ≡ false → is_pointed (option_map (onto_front ds c) o) ≡ false
far_point ds c None e = refl
far_point ds c (Some parts) e = and_left _ _ (not_all ds c parts.0 e)

far_decimal : (negative : Bool) (ds : List ℕ) (c : ℕ) (o : Option (List ℕ × List ℕ)) → is_digit_in 10 c ≡ false → decimal_form negative (option_map (onto_front ds c) o) ≡ None
far_decimal negative ds c None e = refl
far_decimal negative ds c (Some parts) e =
    let none : (is_numeral 10 (ds ++ c ∷ parts.0) && is_empty parts.1) ≡ false = and_left _ _ (mixed 10 ds c parts.0 e) in
    rw none refl

far_mantissa : (ds : List ℕ) (c : ℕ) (xs : List ℕ) (o : Option (List ℕ × List ℕ)) → is_digit_in 10 c ≡ false
    → is_mantissa (ds ++ c ∷ xs) (option_map (onto_front ds c) o) ≡ false
far_mantissa ds c xs None e = mixed 10 ds c xs e
far_mantissa ds c xs (Some parts) e = and_left _ _ (and_left _ _ (not_all ds c parts.0 e))

far_scaled : (ds : List ℕ) (c : ℕ) (o : Option (List ℕ × List ℕ)) → are_digits 10 ds ≡ true → is_digit_in 10 c ≡ false → is_point c ≡ false
    → is_scaled (option_map (onto_front ds c) o) ≡ false
far_scaled ds c None are e point = refl
far_scaled ds c (Some parts) are e point =
    and_left _ _ (ap (is_mantissa (ds ++ c ∷ parts.0)) (cut_past is_point ds c parts.0 (no_point ds are) point) ∙ far_mantissa ds c parts.0 (cut_at_first is_point parts.0) e)

scaled_at : (ds : List ℕ) (c : ℕ) (cs : List ℕ) (b : Bool) → are_digits 10 ds ≡ true → is_digit_in 10 c ≡ false → is_point c ≡ false → is_exponent_marker c ≡ b
    → is_scaled (cut_at_first is_exponent_marker (ds ++ c ∷ cs)) ≡ (not (is_empty ds) && (b && is_numeral 10 (without_sign cs)))
scaled_at ds c cs true are e point marker =
    ap is_scaled (cut_with is_exponent_marker ds c cs (no_marker ds are) marker)
    ∙ ap (λ o. is_mantissa ds o && is_numeral 10 (without_sign cs)) (cut_without is_point ds (no_point ds are))
    ∙ (rw are (some ds))
  where
    some : (xs : List ℕ) → ((not (is_empty xs) && true) && is_numeral 10 (without_sign cs)) ≡ (not (is_empty xs) && is_numeral 10 (without_sign cs))
    some [] = refl
    some (x ∷ xs) = refl
scaled_at ds c cs false are e point marker =
    ap is_scaled (cut_past is_exponent_marker ds c cs (no_marker ds are) marker) ∙ far_scaled ds c (cut_at_first is_exponent_marker cs) are e point
    ∙ sym (and_right (not (is_empty ds)) false refl)

pub unpointed_float : (ds rest : List ℕ) → are_digits 10 ds ≡ true → IsApart rest → is_float (ds ++ rest) ≡ (not (is_empty ds) && is_exponent rest)
unpointed_float ds [] are apart =
    let pointed : is_pointed (cut_at_first is_point (ds ++ [])) ≡ false = ap (λ (xs : List ℕ). is_pointed (cut_at_first is_point xs)) (append-nil ds) ∙ ap is_pointed (cut_without is_point ds (no_point ds are)) in
    let scaled : is_scaled (cut_at_first is_exponent_marker (ds ++ [])) ≡ false = ap (λ (xs : List ℕ). is_scaled (cut_at_first is_exponent_marker xs)) (append-nil ds) ∙ ap is_scaled (cut_without is_exponent_marker ds (no_marker ds are)) in
    (λ i. pointed i || scaled i) ∙ sym (and_right (not (is_empty ds)) false refl)
unpointed_float ds (c ∷ rest) are apart =
    let pointed : is_pointed (cut_at_first is_point (ds ++ c ∷ rest)) ≡ false = ap is_pointed (cut_past is_point ds c rest (no_point ds are) apart.1) ∙ far_point ds c (cut_at_first is_point rest) apart.0 in
    λ i. pointed i || scaled_at ds c rest (is_exponent_marker c) are apart.0 apart.1 refl i

pub unpointed_decimal : (negative : Bool) (ds rest : List ℕ) → are_digits 10 ds ≡ true → IsApart rest → decimal_form negative (cut_at_first is_point (ds ++ rest)) ≡ None
unpointed_decimal negative ds [] are apart =
    ap (λ (xs : List ℕ). decimal_form negative (cut_at_first is_point xs)) (append-nil ds) ∙ ap (decimal_form negative) (cut_without is_point ds (no_point ds are))
unpointed_decimal negative ds (c ∷ rest) are apart =
    ap (decimal_form negative) (cut_past is_point ds c rest (no_point ds are) apart.1) ∙ far_decimal negative ds c (cut_at_first is_point rest) apart.0

-- ---- with a point after the digits

pointed_at : (ds fs rest : List ℕ) → are_digits 10 ds ≡ true → are_digits 10 fs ≡ true → begins_with_digit 10 rest ≡ false
    → is_pointed (cut_at_first is_point (ds ++ 46 ∷ (fs ++ rest))) ≡ (not (is_empty fs) && is_empty rest)
pointed_at ds fs [] are fraction ends =
    ap is_pointed (cut_with is_point ds 46 (fs ++ []) (no_point ds are) refl) ∙ all_of (is_numeral 10 (fs ++ [])) ds are
    ∙ ap (is_numeral 10) (append-nil fs) ∙ (rw fraction refl)
pointed_at ds fs (c ∷ rest) are fraction ends =
    ap is_pointed (cut_with is_point ds 46 (fs ++ c ∷ rest) (no_point ds are) refl) ∙ all_of (is_numeral 10 (fs ++ c ∷ rest)) ds are
    ∙ mixed 10 fs c rest ends ∙ sym (and_right (not (is_empty fs)) false refl)

far_fraction : (ds fs : List ℕ) (c : ℕ) (o : Option (List ℕ × List ℕ)) → are_digits 10 ds ≡ true → is_digit_in 10 c ≡ false
    → is_scaled (option_map (onto_front ds 46) (option_map (onto_front fs c) o)) ≡ false
far_fraction ds fs c None are e = refl
far_fraction ds fs c (Some parts) are e =
    and_left _ _ (ap (is_mantissa (ds ++ 46 ∷ (fs ++ c ∷ parts.0))) (cut_with is_point ds 46 (fs ++ c ∷ parts.0) (no_point ds are) refl)
    ∙ and_left _ _ (and_right (are_digits 10 ds) _ (not_all fs c parts.0 e)))

behind_fraction : (ds fs : List ℕ) (c : ℕ) (cs : List ℕ) (b : Bool) → are_digits 10 ds ≡ true → are_digits 10 fs ≡ true → is_digit_in 10 c ≡ false → is_exponent_marker c ≡ b
    → is_scaled (option_map (onto_front ds 46) (cut_at_first is_exponent_marker (fs ++ c ∷ cs))) ≡ (not (is_empty ds && is_empty fs) && (b && is_numeral 10 (without_sign cs)))
behind_fraction ds fs c cs true are fraction e marker =
    ap (λ o. is_scaled (option_map (onto_front ds 46) o)) (cut_with is_exponent_marker fs c cs (no_marker fs fraction) marker)
    ∙ ap (λ o. is_mantissa (ds ++ 46 ∷ fs) o && is_numeral 10 (without_sign cs)) (cut_with is_point ds 46 fs (no_point ds are) refl)
    ∙ (rw (are, fraction) refl)
behind_fraction ds fs c cs false are fraction e marker =
    ap (λ o. is_scaled (option_map (onto_front ds 46) o)) (cut_past is_exponent_marker fs c cs (no_marker fs fraction) marker)
    ∙ far_fraction ds fs c (cut_at_first is_exponent_marker cs) are e ∙ sym (and_right (not (is_empty ds && is_empty fs)) false refl)

scaled_behind : (ds fs rest : List ℕ) → are_digits 10 ds ≡ true → are_digits 10 fs ≡ true → begins_with_digit 10 rest ≡ false
    → is_scaled (cut_at_first is_exponent_marker (ds ++ 46 ∷ (fs ++ rest))) ≡ (not (is_empty ds && is_empty fs) && is_exponent rest)
scaled_behind ds fs [] are fraction ends =
    ap is_scaled (cut_past is_exponent_marker ds 46 (fs ++ []) (no_marker ds are) refl)
    ∙ ap (λ (xs : List ℕ). is_scaled (option_map (onto_front ds 46) (cut_at_first is_exponent_marker xs))) (append-nil fs)
    ∙ ap (λ o. is_scaled (option_map (onto_front ds 46) o)) (cut_without is_exponent_marker fs (no_marker fs fraction))
    ∙ sym (and_right (not (is_empty ds && is_empty fs)) false refl)
scaled_behind ds fs (c ∷ rest) are fraction ends =
    ap is_scaled (cut_past is_exponent_marker ds 46 (fs ++ c ∷ rest) (no_marker ds are) refl)
    ∙ behind_fraction ds fs c rest (is_exponent_marker c) are fraction ends refl

pub pointed_float : (ds fs rest : List ℕ) → are_digits 10 ds ≡ true → are_digits 10 fs ≡ true → begins_with_digit 10 rest ≡ false
    → is_float (ds ++ 46 ∷ (fs ++ rest)) ≡ ((not (is_empty fs) && is_empty rest) || (not (is_empty ds && is_empty fs) && is_exponent rest))
pointed_float ds fs rest are fraction ends = λ i. pointed_at ds fs rest are fraction ends i || scaled_behind ds fs rest are fraction ends i

pub pointed_decimal : (negative : Bool) (ds after : List ℕ) → are_digits 10 ds ≡ true
    → decimal_form negative (cut_at_first is_point (ds ++ 46 ∷ after)) ≡ (if not (is_empty ds) && is_empty after then Some (integer_of negative (numeral_value 10 ds)) else None)
pointed_decimal negative ds after are =
    ap (decimal_form negative) (cut_with is_point ds 46 after (no_point ds are) refl) ∙ (rw are (some ds))
  where
    some : (xs : List ℕ) → (if (not (is_empty xs) && true) && is_empty after then Some (integer_of negative (numeral_value 10 ds)) else None)
        ≡ (if not (is_empty xs) && is_empty after then Some (integer_of negative (numeral_value 10 ds)) else None)
    some [] = refl
    some (x ∷ xs) = refl

-- ---- the cases of a text that begins with decimal digits

by_decimal : (negative : Bool) (text : List ℕ) (given : Result Object MeaningRefusal) → decimal_form negative (cut_at_first is_point text) ≡ Some given
    → decimal_or_float_form negative text ≡ Some given
by_decimal negative text given e = rw e refl

by_float : (negative : Bool) (text : List ℕ) → decimal_form negative (cut_at_first is_point text) ≡ None → is_float text ≡ true
    → decimal_or_float_form negative text ≡ Some (Err FloatToken)
by_float negative text e f = rw (e, f) refl

by_neither : (negative : Bool) (text : List ℕ) → decimal_form negative (cut_at_first is_point text) ≡ None → is_float text ≡ false
    → decimal_or_float_form negative text ≡ None
by_neither negative text e f = rw (e, f) refl

apart : (rest : List ℕ) → begins_with_digit 10 rest ≡ false → after_code 46 rest ≡ None → IsApart rest
apart [] ends none = tt
apart (c ∷ rest) ends none = (ends, by (c == 46) refl none)
  where
    by : (b : Bool) → (c == 46) ≡ b → (if b then Some rest else None) ≡ None → is_point c ≡ false
    by true e none = absurd cc
    by false e none = e

unpointed : (negative : Bool) (text rest : List ℕ) (some : Bool) (size : Option ℕ) (b : Bool) → IsLeading 10 text some size rest → after_code 46 rest ≡ None
    → (some && is_exponent rest) ≡ b → (decimal_form negative (cut_at_first is_point text) ≡ None) × (is_float text ≡ b)
unpointed negative text rest some size b h none e =
    let there = apart rest h.ends none in (
      ap (λ (xs : List ℕ). decimal_form negative (cut_at_first is_point xs)) h.leads.split ∙ unpointed_decimal negative h.leads.digits rest h.leads.are there,
      ap is_float h.leads.split ∙ unpointed_float h.leads.digits rest h.leads.are there ∙ (λ i. sym h.leads.there i && is_exponent rest) ∙ e,
    )

pub exponent_float : (negative : Bool) (text rest : List ℕ) (some : Bool) (size : Option ℕ) → IsLeading 10 text some size rest → after_code 46 rest ≡ None
    → (some && is_exponent rest) ≡ true → decimal_or_float_form negative text ≡ Some (Err FloatToken)
exponent_float negative text rest some size h none e = let both = unpointed negative text rest some size true h none e in by_float negative text both.0 both.1

pub no_exponent : (negative : Bool) (text rest : List ℕ) (some : Bool) (size : Option ℕ) → IsLeading 10 text some size rest → after_code 46 rest ≡ None
    → (some && is_exponent rest) ≡ false → decimal_or_float_form negative text ≡ None
no_exponent negative text rest some size h none e = let both = unpointed negative text rest some size false h none e in by_neither negative text both.0 both.1

-- the two tests, where the digits before and after the point are known
record Point (negative : Bool) (text rest : List ℕ) (whole fraction : Bool) (size : ℕ) : Type 0 where
  decimal : decimal_form negative (cut_at_first is_point text) ≡ (if whole && (not fraction && is_empty rest) then Some (integer_of negative size) else None)
  float : is_float text ≡ ((fraction && is_empty rest) || ((whole || fraction) && is_exponent rest))

or_of : (xs ys : List ℕ) → not (is_empty xs && is_empty ys) ≡ (not (is_empty xs) || not (is_empty ys))
or_of [] ys = refl
or_of (x ∷ xs) ys = refl

empty_of : (fs rest : List ℕ) → is_empty (fs ++ rest) ≡ (not (not (is_empty fs)) && is_empty rest)
empty_of [] rest = refl
empty_of (x ∷ fs) rest = refl

point : (negative : Bool) (text after rest : List ℕ) (whole fraction : Bool) (size part : Option ℕ) → (h : IsLeading 10 text whole size (46 ∷ after))
    → IsLeading 10 after fraction part rest → Point negative text rest whole fraction (numeral_value 10 h.leads.digits)
point negative text after rest whole fraction size part h g =
    let ds = h.leads.digits in
    let fs = g.leads.digits in
    record {
      decimal = ap (λ (xs : List ℕ). decimal_form negative (cut_at_first is_point xs)) h.leads.split ∙ pointed_decimal negative ds after h.leads.are
          ∙ (λ i. if sym h.leads.there i && is_empty (g.leads.split i) then Some (integer_of negative (numeral_value 10 ds)) else None)
          ∙ (λ i. if whole && empty_of fs rest i then Some (integer_of negative (numeral_value 10 ds)) else None)
          ∙ (λ i. if whole && (not (sym g.leads.there i) && is_empty rest) then Some (integer_of negative (numeral_value 10 ds)) else None);
      float = ap is_float h.leads.split ∙ ap (λ (xs : List ℕ). is_float (ds ++ 46 ∷ xs)) g.leads.split
          ∙ pointed_float ds fs rest h.leads.are g.leads.are g.ends
          ∙ (λ i. (not (is_empty fs) && is_empty rest) || (or_of ds fs i && is_exponent rest))
          ∙ (λ i. (sym g.leads.there i && is_empty rest) || ((sym h.leads.there i || sym g.leads.there i) && is_exponent rest));
    }

pub point_float : (negative : Bool) (text after : List ℕ) (whole : Bool) (size part : Option ℕ) → IsLeading 10 text whole size (46 ∷ after)
    → IsLeading 10 after true part [] → decimal_or_float_form negative text ≡ Some (Err FloatToken)
point_float negative text after whole size part h g =
    let p = point negative text after [] whole true size part h g in
    by_float negative text (p.decimal ∙ (rw (and_right whole false refl) refl)) p.float

pub point_integer : (negative : Bool) (text after : List ℕ) (size part : Option ℕ) → (h : IsLeading 10 text true size (46 ∷ after))
    → IsLeading 10 after false part [] → decimal_or_float_form negative text ≡ Some (integer_of negative (numeral_value 10 h.leads.digits))
point_integer negative text after size part h g = by_decimal negative text _ (point negative text after [] true false size part h g).decimal

pub point_alone : (negative : Bool) (text after : List ℕ) (size part : Option ℕ) → IsLeading 10 text false size (46 ∷ after)
    → IsLeading 10 after false part [] → decimal_or_float_form negative text ≡ None
point_alone negative text after size part h g = let p = point negative text after [] false false size part h g in by_neither negative text p.decimal p.float

more_after : (negative : Bool) (text after rest : List ℕ) (whole fraction b : Bool) (size part : Option ℕ) → IsLeading 10 text whole size (46 ∷ after)
    → IsLeading 10 after fraction part rest → is_empty rest ≡ false → ((whole || fraction) && is_exponent rest) ≡ b
    → (decimal_form negative (cut_at_first is_point text) ≡ None) × (is_float text ≡ b)
more_after negative text after rest whole fraction b size part h g more e =
    let p = point negative text after rest whole fraction size part h g in
    (p.decimal ∙ (rw (more, and_right (not fraction) false refl, and_right whole false refl) refl), p.float ∙ (rw (more, and_right fraction false refl) e))

pub point_exponent : (negative : Bool) (text after rest : List ℕ) (whole fraction : Bool) (size part : Option ℕ) → IsLeading 10 text whole size (46 ∷ after)
    → IsLeading 10 after fraction part rest → is_empty rest ≡ false → ((whole || fraction) && is_exponent rest) ≡ true
    → decimal_or_float_form negative text ≡ Some (Err FloatToken)
point_exponent negative text after rest whole fraction size part h g more e =
    let both = more_after negative text after rest whole fraction true size part h g more e in by_float negative text both.0 both.1

pub point_none : (negative : Bool) (text after rest : List ℕ) (whole fraction : Bool) (size part : Option ℕ) → IsLeading 10 text whole size (46 ∷ after)
    → IsLeading 10 after fraction part rest → is_empty rest ≡ false → ((whole || fraction) && is_exponent rest) ≡ false
    → decimal_or_float_form negative text ≡ None
point_none negative text after rest whole fraction size part h g more e =
    let both = more_after negative text after rest whole fraction false size part h g more e in by_neither negative text both.0 both.1

point_here : (c : ℕ) (cs after : List ℕ) (b : Bool) → (c == 46) ≡ b → (if b then Some cs else None) ≡ Some after → c ∷ cs ≡ 46 ∷ after
point_here c cs after true e some =
    let same : cs ≡ after = cc in
    let code : c ≡ 46 = eqb-true c 46 e in
    λ i. code i ∷ same i
point_here c cs after false e some = absurd cc

-- a point is before what comes after it
pub after_its_point : (rest after : List ℕ) → after_code 46 rest ≡ Some after → rest ≡ 46 ∷ after
after_its_point [] after some = absurd cc
after_its_point (c ∷ rest) after some = point_here c rest after (c == 46) refl some

empty : (rest : List ℕ) → is_empty rest ≡ true → rest ≡ []
empty [] e = refl
empty (c ∷ rest) e = absurd cc

-- nothing comes after the digits of the fraction
pub at_end : (text rest : List ℕ) (some : Bool) (size : Option ℕ) → IsLeading 10 text some size rest → is_empty rest ≡ true → IsLeading 10 text some size []
at_end text rest some size h e = subst (λ (xs : List ℕ). IsLeading 10 text some size xs) (empty rest e) h

-- whether there are digits is known
pub digits_known : (text rest : List ℕ) (some b : Bool) (size : Option ℕ) → IsLeading 10 text some size rest → some ≡ b → IsLeading 10 text b size rest
digits_known text rest some b size h e = subst (λ (x : Bool). IsLeading 10 text x size rest) e h
