-- Numbers that are written in digits, and what bytes begin with none.
use Rattle.std.proofs.Common.{◌≡◌, ℕ, zero, suc, ◌+◌, ◌*◌, ◌-◌, ◌<◌, ◌≤◌, ◌^◌, ◌/◌, ◌%◌, ◌⊎◌, inl, inr, List, [], ◌∷◌, ◌++◌, length, get_or, take, drop, refl, sym, ap, ◌∙◌, append_assoc, arith, length-append}
use Rattle.std.specs.Prelude.{Option, Some, None, unwrap_or, IfSome, IsSome}
use Rattle.std.specs.Fmt.{decimal}
use Rattle.std.specs.Char.{digit_value}
use Rattle.std.specs.Str.Parse.{digits_value}
use Rattle.std.proofs.lemmas.Bool.{cases_lt}
use Rattle.std.proofs.lemmas.List.{drop_more, take-append-drop, take_all, take_at, take_more}
use Rattle.std.proofs.lemmas.Int.Digits.{digits_value_push}
use Rattle.std.proofs.lemmas.Str.{digit_value_digit}
use Rattle.std.proofs.lemmas.Str.Parse.{digits_value-take-le}
use Rattle.std.proofs.lemmas.Fmt.{decimal_is_IsNumeral, decimal_step, decimal_digit, first_decimal, decimal_nonempty}
use Rattle.message_frames.specs.Numbers.{AddsDigit, AddsNone, IsDigit, digits_of, number_word}
use Rattle.message_frames.specs.Words.{Begins, BeginsNone, IsPartOfWord}
use Rattle.message_frames.proofs.Digits.{AreDigits, decimal_has_digits, digits_end, digits_go_on}

-- one digit more
pub decimal_more : (n d : ℕ) → 0 < n → d < 10 → n * 10 + d < 2 ^ 64 → decimal (n * 10 + d) ≡ decimal n ++ (48 + d) ∷ []
decimal_more n d some digit small =
    let m = n * 10 + d in
    let front : m / 10 ≡ n = omega arith in
    let last : m % 10 ≡ d = omega arith in
    decimal_step m (omega arith) small ∙ ap (λ q. decimal q ++ (48 + m % 10) ∷ []) front ∙ ap (λ r. decimal n ++ (48 + r) ∷ []) last

pub more_digits : (number : Option ℕ) (c most more : ℕ) → most < 2 ^ 64 → AddsDigit number c most more → decimal more ≡ digits_of number ++ c ∷ []
more_digits None c most more small adds =
    let d : 48 + (c - 48) ≡ c = omega (arith, adds.digit.0) in
    let is : more ≡ c - 48 = omega (arith, adds.worth) in
    ap decimal is ∙ decimal_digit (c - 48) (omega (arith, adds.digit.1)) ∙ ap (λ z. z ∷ []) d
more_digits (Some zero) c most more small adds = absurd (adds.first refl)
more_digits (Some (suc n)) c most more small adds =
    let d : 48 + (c - 48) ≡ c = omega (arith, adds.digit.0) in
    let within : suc n * 10 + (c - 48) < 2 ^ 64 = omega (arith, adds.worth, adds.within) in
    ap decimal adds.worth ∙ decimal_more (suc n) (c - 48) (omega arith) (omega (arith, adds.digit.1)) within ∙ ap (λ z. decimal (suc n) ++ z ∷ []) d

-- the number of the digits that a number begins with
front_le : (n : ℕ) (ds more : List ℕ) (c : ℕ) → n < 2 ^ 64 → IsDigit c → decimal n ≡ ds ++ c ∷ more → digits_value 10 ds * 10 + (c - 48) ≤ n
front_le n ds more c small digit e =
    let parts : decimal n ≡ (ds ++ c ∷ []) ++ more = e ∙ sym (append_assoc ds (c ∷ []) more) in
    let front : take (length (ds ++ c ∷ [])) (decimal n) ≡ ds ++ c ∷ [] = ap (take (length (ds ++ c ∷ []))) parts ∙ take_at (ds ++ c ∷ []) more (length (ds ++ c ∷ [])) refl in
    let least : digits_value 10 (take (length (ds ++ c ∷ [])) (decimal n)) ≤ digits_value 10 (decimal n) = digits_value-take-le 10 (decimal n) (length (ds ++ c ∷ [])) (omega arith) in
    let value : digits_value 10 (take (length (ds ++ c ∷ [])) (decimal n)) ≡ digits_value 10 ds * 10 + digit_value c = ap (digits_value 10) front ∙ digits_value_push 10 ds c in
    omega (arith, least, value, (decimal_is_IsNumeral n small).1, digit_value_digit c digit)

digits_are_worth : (number : Option ℕ) → IfSome number (λ n. n < 2 ^ 64) → digits_value 10 (digits_of number) ≡ unwrap_or number 0
digits_are_worth None small = refl
digits_are_worth (Some n) small = (decimal_is_IsNumeral n small).1

have_digits : (number : Option ℕ) → IfSome number (λ n. n < 2 ^ 64) → AreDigits (digits_of number)
have_digits None small = tt
have_digits (Some n) small = decimal_has_digits n small

fits : (number : Option ℕ) (most : ℕ) → most < 2 ^ 64 → IfSome number (λ n. n ≤ most) → IfSome number (λ n. n < 2 ^ 64)
fits None most small within = tt
fits (Some n) most small within = omega (arith, within)

-- a digit after a zero is in no number
no_leading_zero : (n c : ℕ) (more : List ℕ) → n < 2 ^ 64 → decimal n ≡ decimal 0 ++ c ∷ more → ⊥
no_leading_zero zero c more small e =
    let one : decimal 0 ≡ 48 ∷ [] = decimal_digit 0 (omega arith) in
    let two : length (decimal 0) ≡ length (decimal 0) + length (c ∷ more) = ap length e ∙ length-append (decimal 0) (c ∷ more) in
    omega (arith, two)
no_leading_zero (suc n) c more small e =
    let one : decimal 0 ≡ 48 ∷ [] = decimal_digit 0 (omega arith) in
    let is : decimal (suc n) ≡ 48 ∷ c ∷ more = e ∙ ap (λ z. z ++ c ∷ more) one in
    let first : get_or (decimal (suc n)) 0 0 ≡ 48 = ap (λ z. get_or z 0 0) is in
    omega (arith, first, first_decimal (suc n) (omega arith) small)

-- a byte that is no digit ends them, and is another one than the end
not_the_end : (number : Option ℕ) (n c end : ℕ) (xs ys : List ℕ) → n < 2 ^ 64 → end < 48 → IfSome number (λ m. m < 2 ^ 64) → (IsSome number → c ≡ end → ⊥)
    → (IsDigit c → ⊥) → digits_of number ++ c ∷ xs ≡ decimal n ++ end ∷ ys → ⊥
not_the_end None n c end xs ys small low within other none e =
    let parts = digits_end [] (decimal n) xs ys c end tt (decimal_has_digits n small) none (λ digit. omega (arith, digit.0)) e in
    omega (arith, decimal_nonempty n small, ap length parts.0)
not_the_end (Some m) n c end xs ys small low within other none e =
    let parts = digits_end (decimal m) (decimal n) xs ys c end (decimal_has_digits m within) (decimal_has_digits n small) none (λ digit. omega (arith, digit.0)) e in
    other refl parts.1

-- a digit that may not come
no_digit : (number : Option ℕ) (n c end most : ℕ) (xs ys : List ℕ) → n ≤ most → most < 2 ^ 64 → end < 48 → IfSome number (λ m. m < 2 ^ 64)
    → IsDigit c → (number ≡ Some 0) ⊎ (most < unwrap_or number 0 * 10 + (c - 48)) → digits_of number ++ c ∷ xs ≡ decimal n ++ end ∷ ys → ⊥
no_digit number n c end most xs ys least small low within digit (inl leading) e =
    let on = digits_go_on (digits_of number) (decimal n) xs ys c end (have_digits number within) digit (λ d. omega (arith, d.0)) e in
    no_leading_zero n c on.0 (omega arith) (on.1 ∙ ap (λ m. digits_of m ++ c ∷ on.0) leading)
no_digit number n c end most xs ys least small low within digit (inr over) e =
    let on = digits_go_on (digits_of number) (decimal n) xs ys c end (have_digits number within) digit (λ d. omega (arith, d.0)) e in
    omega (arith, over, front_le n (digits_of number) on.0 c (omega arith) digit on.1, digits_are_worth number within)

is_digit_or : (c : ℕ) → IsDigit c ⊎ (IsDigit c → ⊥)
is_digit_or c =
    elim (cases_lt c 48) [
      | inl low ↦ inr (λ digit. omega (arith, digit.0))
      | inr high ↦ elim (cases_lt c 58) [
        | inl within ↦ inl (high, omega arith)
        | inr over ↦ inr (λ digit. omega (arith, digit.1))
      ]
    ]

-- no number of at most so much goes on so
no_more : (number : Option ℕ) (n c end most : ℕ) (xs ys : List ℕ) → n ≤ most → most < 2 ^ 64 → end < 48 → IfSome number (λ m. m ≤ most)
    → (IsSome number → c ≡ end → ⊥) → AddsNone number c most → digits_of number ++ c ∷ xs ≡ decimal n ++ end ∷ ys → ⊥
no_more number n c end most xs ys least small low within other (inl none) e =
    not_the_end number n c end xs ys (omega arith) low (fits number most small within) other none e
no_more number n c end most xs ys least small low within other (inr (inl leading)) e =
    elim (is_digit_or c) [
      | inl digit ↦ no_digit number n c end most xs ys least small low (fits number most small within) digit (inl leading) e
      | inr none ↦ not_the_end number n c end xs ys (omega arith) low (fits number most small within) other none e
    ]
no_more number n c end most xs ys least small low within other (inr (inr over)) e =
    no_digit number n c end most xs ys least small low (fits number most small within) over.0 (inr over.1) e

-- ---- the answers of the reader of numbers

pub begins_none : (number : Option ℕ) (c end most : ℕ) (bytes cs : List ℕ) → most < 2 ^ 64 → end < 48 → IfSome number (λ m. m ≤ most)
    → (IsSome number → c ≡ end → ⊥) → AddsNone number c most → bytes ≡ digits_of number ++ c ∷ cs → BeginsNone (number_word end) (λ n. n ≤ most) bytes
begins_none number c end most bytes cs small low within other none is n more rest least e =
    let left : bytes ++ more ≡ digits_of number ++ c ∷ (cs ++ more) = ap (λ z. z ++ more) is ∙ append_assoc (digits_of number) (c ∷ cs) more in
    let right : number_word end n ++ rest ≡ decimal n ++ end ∷ rest = append_assoc (decimal n) (end ∷ []) rest in
    no_more number n c end most (cs ++ more) rest least small low within other none (sym left ∙ e ∙ right)

pub begins : (n end most : ℕ) (bytes rest : List ℕ) → n ≤ most → bytes ≡ decimal n ++ end ∷ rest → Begins (number_word end) (λ m. m ≤ most) n rest bytes
begins n end most bytes rest least is = record { wanted = least; parts = is ∙ sym (append_assoc (decimal n) (end ∷ []) rest) }

pub is_part : (number : Option ℕ) (end most : ℕ) (bytes : List ℕ) → IfSome number (λ m. m ≤ most) → bytes ≡ digits_of number → IsPartOfWord (number_word end) (λ n. n ≤ most) bytes
is_part None end most bytes within is = record {
  x = 0;
  more = number_word end 0;
  wanted = omega arith;
  parts = ap (λ z. z ++ number_word end 0) (sym is);
  some = simp length-append (omega arith);
}
is_part (Some n) end most bytes within is = record {
  x = n;
  more = end ∷ [];
  wanted = within;
  parts = ap (λ z. z ++ end ∷ []) (sym is);
  some = omega arith;
}

-- the digits so far, and the next byte
pub at_byte : (bytes : List ℕ) (i : ℕ) (front : List ℕ) → i < length bytes → take i bytes ≡ front → bytes ≡ front ++ get_or bytes i 0 ∷ drop (i + 1) bytes
at_byte bytes i front within is = sym (take-append-drop i bytes) ∙ ap (λ z. z ++ drop i bytes) is ∙ ap (λ z. front ++ z) (drop_more bytes i 0 within)

pub one_more : (number : Option ℕ) (bytes : List ℕ) (i most more : ℕ) → most < 2 ^ 64 → i < length bytes → take i bytes ≡ digits_of number → AddsDigit number (get_or bytes i 0) most more
    → take (i + 1) bytes ≡ decimal more
one_more number bytes i most more small within is adds =
    take_more bytes i 0 within ∙ ap (λ z. z ++ get_or bytes i 0 ∷ []) is ∙ sym (more_digits number (get_or bytes i 0) most more small adds)

pub all_digits : (bytes : List ℕ) (i : ℕ) (digits : List ℕ) → length bytes ≤ i → take i bytes ≡ digits → bytes ≡ digits
all_digits bytes i digits far is = sym (take_all i bytes far) ∙ is
