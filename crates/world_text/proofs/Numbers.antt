-- Decimal numbers: what they spell and mean.
use Rattle.std.proofs.Common.{◌≡◌, ℕ, suc, zero, ◌<◌, ◌^◌, ℤ, pos, negsuc, Bool, true, false, not, ◌&&◌, ◌||◌, List, [], ◌∷◌, ◌++◌, length, append_assoc, Some, Option, Result, refl, sym, ap, ◌∙◌, arith, rules, lit≤, Ok}
use Rattle.std.specs.Prelude.{All, decimal, codes, FitsSigned, nat_lt, ◌==◌, if◌then◌else◌}
use Rattle.std.specs.Option.{ok_or}
use Rattle.token_meaning.specs.declared.refusal.MeaningRefusal.{MeaningRefusal}
use Rattle.token_meaning.specs.declared.refusal.MeaningRefusal.TheVariants.{ZeroDenominator}
use Rattle.std.specs.Fmt.{signed_decimal}
use Rattle.std.specs.Int.{w128}
use Rattle.std.specs.List.{list_all}
use Rattle.std.specs.Char.{digit_value}
use Rattle.std.specs.Str.Parse.{AllDigits}
use Rattle.std.proofs.lemmas.Bool.{and_parts, and_from, and_left, or_left, or_right, lt-ltb, le-leb}
use Rattle.std.proofs.lemmas.List.Folds.{list_all-append}
use Rattle.std.proofs.lemmas.Fmt.{decimal_is_IsNumeral_wide}
use Rattle.std.proofs.lemmas.Str.Parse.{IsNumeralModel, WeighsDigits, numerals_by_weight, tells_digits}
use Rattle.lisp_object.specs.Object.{Object, integer, rational}
use Rattle.lisp_object.specs.Lowest.{IsLowest}
use Rattle.lisp_object.specs.Quotient.{quotient}
use Rattle.lisp_object.proofs.Quotients.{lowest_stays}
use Rattle.token_meaning.specs.Numerals.{is_digit_in, is_numeral, are_digits, is_empty, numeral_value, signed, is_magnitude_in_range}
use Rattle.token_meaning.specs.Numbers.{is_point, ratio_of, number_in_base}
use Rattle.token_meaning.specs.Grammar.{Sign, absent, minus, IsDigits, IsRatio}
use Rattle.token_meaning.proofs.Spelled.{digits_given, ratio_given}
use Rattle.canon_printer.specs.Written.{printed_ratio}
use Rattle.world_text.proofs.Characters.{in_number, in_number_below, number_no_point}

weighs : WeighsDigits (numeral_value 10)
unfolding numeral_value
weighs = search rules

own : IsNumeralModel (AllDigits 10) (numeral_value 10)
own = numerals_by_weight (AllDigits 10) tells_digits (numeral_value 10) weighs

digits_test : (ds : List ℕ) → AllDigits 10 ds → are_digits 10 ds ≡ true
digits_test [] h = refl
digits_test (d ∷ ds) h = rw (lt-ltb (digit_value d) 10 h.0, digits_test ds h.1) refl

some_test : (ds : List ℕ) → 0 < length ds → not (is_empty ds) ≡ true
some_test [] h = absurd (omega arith)
some_test (d ∷ ds) h = refl

wide : (n : ℕ) → n < 2 ^ 128 → n < 10 ^ 64
wide n h = omega arith

pub decimal_numeral : (n : ℕ) → n < 2 ^ 128 → is_numeral 10 (decimal n) ≡ true
decimal_numeral n h =
    let is = decimal_is_IsNumeral_wide n (wide n h) in
    and_from _ _ (some_test (decimal n) is.0.0) (digits_test (decimal n) is.0.1)

pub decimal_value : (n : ℕ) → n < 2 ^ 128 → n ≡ numeral_value 10 (decimal n)
decimal_value n h =
    let is = decimal_is_IsNumeral_wide n (wide n h) in
    sym (own.same (decimal n) is.0.1 ∙ is.1)

-- ---- integers

abbrev pub sign_of : ℤ → Sign
sign_of (pos n) = absent
sign_of (negsuc n) = minus

abbrev pub below_zero : ℤ → Bool
below_zero (pos n) = false
below_zero (negsuc n) = true

abbrev pub size : ℤ → ℕ
size (pos n) = n
size (negsuc n) = suc n

pub signed_size : (n : ℤ) → signed (below_zero n) (size n) ≡ n
signed_size (pos n) = refl
signed_size (negsuc n) = refl

pub in_range : (n : ℤ) → FitsSigned w128 n → is_magnitude_in_range (below_zero n) (size n) ≡ true
in_range (pos n) fits = let below : n < 2 ^ 127 = fits.sfits in lt-ltb n (2 ^ 127) below
in_range (negsuc n) fits = let below : n < 2 ^ 127 = fits.sfits in le-leb (suc n) (2 ^ 127) (omega (arith, below))

pub size_below : (n : ℤ) → FitsSigned w128 n → size n < 2 ^ 128
size_below (pos n) fits = let below : n < 2 ^ 127 = fits.sfits in omega (arith, below)
size_below (negsuc n) fits = let below : n < 2 ^ 127 = fits.sfits in omega (arith, below)

pub is_digits : (n : ℤ) → FitsSigned w128 n → IsDigits 10 (signed_decimal n) (below_zero n) (size n)
is_digits (pos n) fits =
    let small = size_below (pos n) fits in
    record { sign = absent; digits = decimal n; numeral = decimal_numeral n small; parts = refl; below_zero = refl; worth = decimal_value n small }
is_digits (negsuc n) fits =
    let small = size_below (negsuc n) fits in
    record { sign = minus; digits = decimal (suc n); numeral = decimal_numeral (suc n) small; parts = refl; below_zero = refl; worth = decimal_value (suc n) small }

pub integer_given : (n : ℤ) → FitsSigned w128 n → number_in_base 10 (signed_decimal n) ≡ Some (Ok (integer n))
integer_given n fits =
    digits_given 10 (signed_decimal n) (below_zero n) (size n) (lit≤ tt) (is_digits n fits)
    ∙ (rw (in_range n fits, signed_size n) refl)

-- ---- ratios

pub is_ratio : (n : ℤ) (d : ℕ) → FitsSigned w128 n → d < 2 ^ 128 → IsRatio 10 (printed_ratio n d) (below_zero n) (size n) d
is_ratio (pos n) d fits small =
    let top = size_below (pos n) fits in
    record {
      sign = absent;
      above = decimal n;
      below = decimal d;
      numeral_above = decimal_numeral n top;
      numeral_below = decimal_numeral d small;
      parts = append_assoc (decimal n) (codes "/") (decimal d);
      below_zero = refl;
      worth_above = decimal_value n top;
      worth_below = decimal_value d small;
    }
is_ratio (negsuc n) d fits small =
    let top = size_below (negsuc n) fits in
    record {
      sign = minus;
      above = decimal (suc n);
      below = decimal d;
      numeral_above = decimal_numeral (suc n) top;
      numeral_below = decimal_numeral d small;
      parts = append_assoc (signed_decimal (negsuc n)) (codes "/") (decimal d);
      below_zero = refl;
      worth_above = decimal_value (suc n) top;
      worth_below = decimal_value d small;
    }

when : {X : Type 0} (b : Bool) (x y : X) → b ≡ true → (if b then x else y) ≡ x
when true x y e = refl
when false x y e = absurd cc

ratio_kept : (n : ℤ) (d : ℕ) → FitsSigned w128 n → d < 2 ^ 128 → IsLowest n d → ratio_of (below_zero n) (size n) d ≡ Ok (rational n d)
ratio_kept n d fits small is =
    when (d == 0 || (is_magnitude_in_range (below_zero n) (size n) && nat_lt d (2 ^ 128))) _ _ (or_right (d == 0) _ (and_from _ _ (in_range n fits) (lt-ltb d (2 ^ 128) small)))
    ∙ ap (λ (o : Option Object). ok_or o ZeroDenominator) (ap (λ (m : ℤ). quotient m d) (signed_size n) ∙ lowest_stays n d is)

pub ratio_is_given : (n : ℤ) (d : ℕ) → FitsSigned w128 n → d < 2 ^ 128 → IsLowest n d → number_in_base 10 (printed_ratio n d) ≡ Some (Ok (rational n d))
ratio_is_given n d fits small is =
    ratio_given 10 (printed_ratio n d) (below_zero n) (size n) d (lit≤ tt) (is_ratio n d fits small)
    ∙ ap (λ (r : Result Object MeaningRefusal). Some r) (ratio_kept n d fits small is)

-- ---- the characters of numbers

digits_in_number : (ds : List ℕ) → are_digits 10 ds ≡ true → list_all in_number ds ≡ true
digits_in_number [] e = refl
digits_in_number (d ∷ ds) e =
    let both = and_parts (is_digit_in 10 d) (are_digits 10 ds) e in
    and_from _ _ (or_left (is_digit_in 10 d) _ both.0) (digits_in_number ds both.1)

decimal_in_number : (n : ℕ) → n < 2 ^ 128 → list_all in_number (decimal n) ≡ true
decimal_in_number n h = digits_in_number (decimal n) (and_parts _ (are_digits 10 (decimal n)) (decimal_numeral n h)).1

pub integer_in_number : (n : ℤ) → FitsSigned w128 n → list_all in_number (signed_decimal n) ≡ true
integer_in_number (pos n) fits = decimal_in_number n (size_below (pos n) fits)
integer_in_number (negsuc n) fits = decimal_in_number (suc n) (size_below (negsuc n) fits)

pub ratio_in_number : (n : ℤ) (d : ℕ) → FitsSigned w128 n → d < 2 ^ 128 → list_all in_number (printed_ratio n d) ≡ true
ratio_in_number n d fits small =
    list_all-append in_number (signed_decimal n ++ codes "/") (decimal d)
    ∙ and_from _ _ (list_all-append in_number (signed_decimal n) (codes "/") ∙ and_from _ _ (integer_in_number n fits) refl) (decimal_in_number d small)

-- what stands in a number begins no point
pub some_no_point : (text : List ℕ) → list_all in_number text ≡ true → not (is_empty text) ≡ true → list_all is_point text ≡ false
some_no_point [] e some = absurd cc
some_no_point (c ∷ cs) e some = and_left (is_point c) _ (number_no_point c (and_parts (in_number c) (list_all in_number cs) e).0)

-- what stands in a number is below 128
pub in_number_ascii : (text : List ℕ) → list_all in_number text ≡ true → All (λ b. b < 128) text
in_number_ascii [] e k d lt = absurd (omega arith)
in_number_ascii (c ∷ cs) e zero d lt = in_number_below c (and_parts (in_number c) (list_all in_number cs) e).0
in_number_ascii (c ∷ cs) e (suc k) d lt = in_number_ascii cs (and_parts (in_number c) (list_all in_number cs) e).1 k d (omega arith)

-- a number has a character
pub integer_some : (n : ℤ) → FitsSigned w128 n → not (is_empty (signed_decimal n)) ≡ true
integer_some (pos n) fits = (and_parts (not (is_empty (decimal n))) _ (decimal_numeral n (size_below (pos n) fits))).0
integer_some (negsuc n) fits = refl

some_both : (xs ys : List ℕ) → not (is_empty xs) ≡ true → not (is_empty (xs ++ ys)) ≡ true
some_both [] ys e = absurd cc
some_both (x ∷ xs) ys e = refl

pub ratio_some : (n : ℤ) (d : ℕ) → FitsSigned w128 n → not (is_empty (printed_ratio n d)) ≡ true
ratio_some n d fits = some_both (signed_decimal n ++ codes "/") (decimal d) (some_both (signed_decimal n) (codes "/") (integer_some n fits))
