-- What does not begin as a number is none.
use Rattle.std.proofs.Common.{◌≡◌, ℕ, Bool, true, false, ◌||◌, List, [], ◌∷◌, ◌++◌, None, Some, Result, IfSome, refl, ap, ◌∙◌, inl, inr}
use Rattle.std.proofs.lemmas.Bool.{and_parts, or_left, both_ways}
use Rattle.lisp_object.specs.Object.{Object}
use Rattle.token_meaning.specs.declared.refusal.MeaningRefusal.{MeaningRefusal}
use Rattle.token_meaning.specs.Numerals.{is_digit_in, is_sign, is_numeral, are_digits}
use Rattle.token_meaning.specs.Numbers.{is_point, number_in_base}
use Rattle.token_meaning.specs.Grammar.{Sign, absent, plus, minus, sign_bytes, GivesNumber}
use Rattle.token_meaning.proofs.Forms.{found}

abbrev pub begins_number : ℕ → Bool
begins_number c = is_digit_in 10 c || (is_sign c || is_point c)

abbrev pub begins : List ℕ → Bool
begins [] = false
begins (c ∷ cs) = begins_number c

signed_begins : (sign : Sign) (body : List ℕ) → begins body ≡ true → begins (sign_bytes sign ++ body) ≡ true
signed_begins absent body e = e
signed_begins plus body e = refl
signed_begins minus body e = refl

numeral_begins : (ds more : List ℕ) → is_numeral 10 ds ≡ true → begins (ds ++ more) ≡ true
numeral_begins [] more e = absurd cc
numeral_begins (d ∷ ds) more e = or_left (is_digit_in 10 d) _ (and_parts (is_digit_in 10 d) (are_digits 10 ds) e).0

bare_numeral_begins : (ds : List ℕ) → is_numeral 10 ds ≡ true → begins ds ≡ true
bare_numeral_begins [] e = absurd cc
bare_numeral_begins (d ∷ ds) e = or_left (is_digit_in 10 d) _ (and_parts (is_digit_in 10 d) (are_digits 10 ds) e).0

point_begins : (ds more : List ℕ) → are_digits 10 ds ≡ true → begins (ds ++ 46 ∷ more) ≡ true
point_begins [] more e = refl
point_begins (d ∷ ds) more e = or_left (is_digit_in 10 d) _ (and_parts (is_digit_in 10 d) (are_digits 10 ds) e).0

number_begins : (text : List ℕ) (given : Result Object MeaningRefusal) → GivesNumber 10 text given → begins text ≡ true
number_begins text given (inl (negative, size, inl h, is)) = ap begins h.parts ∙ signed_begins h.sign h.digits (bare_numeral_begins h.digits h.numeral)
number_begins text given (inl (negative, size, inr h, is)) = ap begins h.parts ∙ signed_begins h.sign _ (numeral_begins h.digits _ h.numeral)
number_begins text given (inr (inl (negative, numerator, denominator, h, is))) = ap begins h.parts ∙ signed_begins h.sign _ (numeral_begins h.above _ h.numeral_above)
number_begins text given (inr (inr (inl h, is))) = ap begins h.parts ∙ signed_begins h.sign _ (point_begins h.whole _ h.digits)
number_begins text given (inr (inr (inr h, is))) = ap begins h.parts ∙ signed_begins h.sign _ (numeral_begins h.whole _ h.numeral)

pub no_number : (text : List ℕ) → begins text ≡ false → number_in_base 10 text ≡ None
no_number text e =
    elim (number_in_base 10 text) as (λ o. IfSome o (GivesNumber 10 text) → o ≡ None) [
      | None ↦ λ _. refl
      | Some given ↦ λ is. absurd (both_ways (begins text) e (number_begins text given is))
    ] (found 10 text)
