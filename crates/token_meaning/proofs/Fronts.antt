-- Digits at the front of a text, one after the other.
use Rattle.std.proofs.Common.{◌≡◌, ℕ, suc, ◌+◌, ◌*◌, ◌^◌, ◌<◌, ◌≤◌, Bool, true, false, not, ◌&&◌, List, [], ◌∷◌, ◌++◌, length, Option, Some, None, refl, sym, ap, subst, ◌∙◌, lit≤, add-one, arith, append-nil, append_assoc, length-append}
use Rattle.std.specs.Prelude.{nat_lt}
use Rattle.std.specs.Char.{digit_value}
use Rattle.std.proofs.Math.Nat.{pow-suc, pow-zero}
use Rattle.std.proofs.lemmas.Bool.{lt-ltb, and_from, and_right}
use Rattle.std.proofs.lemmas.List.Folds.{list_all-append}
use Rattle.token_meaning.specs.Numerals.{is_digit_in, is_empty, are_digits, is_numeral, numeral_value}
use Rattle.token_meaning.specs.Results.{IsWorth}
use Rattle.token_meaning.specs.Leading.{Leads, begins_with_digit, IsFirstDigit, IsLeading}
use Rattle.token_meaning.proofs.Digits.{mixed}

-- ---- one digit more

shifted : (base d power sum c : ℕ) → d * (power * base) + (sum * base + c) ≡ (d * power + sum) * base + c
shifted base d power sum c = omega arith

value_more : (base : ℕ) (ds : List ℕ) (c : ℕ) → numeral_value base (ds ++ c ∷ []) ≡ numeral_value base ds * base + digit_value c
unfolding numeral_value
value_more base [] c = rw (pow-zero base) (omega arith)
value_more base (d ∷ ds) c =
    rw (length-append ds (c ∷ []), add-one (length ds), pow-suc base (length ds), value_more base ds c)
    (shifted base (digit_value d) (base ^ length ds) (numeral_value base ds) (digit_value c))

some_more : (ds : List ℕ) (c : ℕ) → true ≡ not (is_empty (ds ++ c ∷ []))
some_more [] c = refl
some_more (d ∷ ds) c = refl

pub none_yet : (base : ℕ) (text : List ℕ) → Leads base text false (Some 0) text
unfolding numeral_value
none_yet base text = record { digits = []; split = refl; are = refl; there = refl; worth = (lit≤ tt, refl) }

pub one_more : (base : ℕ) (text rest more : List ℕ) (some : Bool) (size next : Option ℕ) (digit : ℕ) → Leads base text some size rest
    → IsFirstDigit base rest digit more → ((worth : ℕ) → IsWorth size worth → IsWorth next (worth * base + digit))
    → Leads base text true next more
one_more base text [] more some size next digit h first grows = absurd first
one_more base text (c ∷ rest) more some size next digit h first grows = record {
  digits = h.digits ++ c ∷ [];
  split = h.split ∙ sym (append_assoc h.digits (c ∷ []) rest) ∙ ap (λ (xs : List ℕ). (h.digits ++ c ∷ []) ++ xs) first.2;
  are = list_all-append (is_digit_in base) h.digits (c ∷ []) ∙ and_from _ _ h.are (and_from _ _ (lt-ltb _ _ first.0) refl);
  there = some_more h.digits c;
  worth = subst (λ (n : ℕ). IsWorth next n)
      (ap (λ (n : ℕ). numeral_value base h.digits * base + n) first.1 ∙ sym (value_more base h.digits c)) (grows (numeral_value base h.digits) h.worth);
}

-- ---- digits alone

pub numeral_is : (base : ℕ) (text rest : List ℕ) (some : Bool) (size : Option ℕ) → IsLeading base text some size rest
    → is_numeral base text ≡ (some && is_empty rest)
numeral_is base text [] some size h =
    ap (is_numeral base) (h.leads.split ∙ append-nil h.leads.digits)
    ∙ (λ i. not (is_empty h.leads.digits) && h.leads.are i) ∙ (λ i. sym h.leads.there i && true)
numeral_is base text (c ∷ rest) some size h =
    ap (is_numeral base) h.leads.split ∙ mixed base h.leads.digits c rest h.ends ∙ sym (and_right some false refl)

numeral_worth : (base : ℕ) (text : List ℕ) (some : Bool) (size : Option ℕ) → IsLeading base text some size [] → IsWorth size (numeral_value base text)
numeral_worth base text some size h =
    subst (λ (xs : List ℕ). IsWorth size (numeral_value base xs)) (sym (h.leads.split ∙ append-nil h.leads.digits)) h.leads.worth

pub no_numeral : (base : ℕ) (text rest : List ℕ) (some : Bool) (size : Option ℕ) → IsLeading base text some size rest
    → is_empty rest ≡ false → is_numeral base text ≡ false
no_numeral base text rest some size h more = numeral_is base text rest some size h ∙ and_right some _ more

pub numeral_of : (base : ℕ) (text rest : List ℕ) (size : Option ℕ) → IsLeading base text true size rest
    → is_empty rest ≡ true → (is_numeral base text ≡ true) × IsWorth size (numeral_value base text)
numeral_of base text [] size h none = (numeral_is base text [] true size h, numeral_worth base text true size h)
numeral_of base text (c ∷ rest) size h none = absurd cc
