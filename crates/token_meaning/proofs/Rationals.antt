-- What the definition of rationals gives of digits and what comes after them.
use Rattle.std.proofs.Common.{◌≡◌, ℕ, ◌≤◌, Bool, true, false, not, ◌&&◌, List, [], ◌∷◌, ◌++◌, Option, None, Some, Result, refl, sym, ap, subst, ◌∙◌, append-nil}
use Rattle.std.specs.Prelude.{if◌then◌else◌, ◌==◌}
use Rattle.std.specs.List.{list_any}
use Rattle.std.specs.Option.{option_map, option_or}
use Rattle.std.proofs.lemmas.Bool.{and_from, and_left, and_right, eqb-true}
use Rattle.lisp_object.specs.Object.{Object}
use Rattle.token_meaning.specs.declared.refusal.MeaningRefusal.{MeaningRefusal}
use Rattle.token_meaning.specs.Numerals.{is_digit_in, is_empty, are_digits, is_numeral, numeral_value, cut_at_first}
use Rattle.token_meaning.specs.Numbers.{is_slash, integer_of, ratio_of, integer_form, ratio_form, rational_form}
use Rattle.token_meaning.specs.Leading.{IsLeading, after_code}
use Rattle.token_meaning.proofs.Parts.{cut_with, cut_without, cut_past, onto_front}
use Rattle.token_meaning.proofs.Digits.{slash_no_digit, none_among, mixed}

-- ---- choices

taken : (b : Bool) (given : Result Object MeaningRefusal) → b ≡ true → (if b then Some given else None) ≡ Some given
taken b given e = rw e refl

passed_over : (b : Bool) (given : Result Object MeaningRefusal) → b ≡ false → (if b then Some given else None) ≡ None
passed_over b given e = rw e refl

neither : (o p : Option (Result Object MeaningRefusal)) → o ≡ None → p ≡ None → option_or o p ≡ None
neither o p e f = rw (e, f) refl

by_second : (o p : Option (Result Object MeaningRefusal)) (given : Result Object MeaningRefusal) → o ≡ None → p ≡ Some given → option_or o p ≡ Some given
by_second o p given e f = rw (e, f) refl

no_slash : (base : ℕ) (ds : List ℕ) → base ≤ 36 → are_digits base ds ≡ true → list_any is_slash ds ≡ false
no_slash base ds top e = none_among base is_slash (λ c f. slash_no_digit base c top f) ds e

-- ---- digits, and a text that does not go on as a rational

-- the part before the slash holds what is no digit
far_slash : (base : ℕ) (negative : Bool) (ds : List ℕ) (c : ℕ) (o : Option (List ℕ × List ℕ)) → is_digit_in base c ≡ false
    → ratio_form base negative (option_map (onto_front ds c) o) ≡ None
far_slash base negative ds c None e = refl
far_slash base negative ds c (Some parts) e =
    passed_over (is_numeral base (ds ++ c ∷ parts.0) && is_numeral base parts.1) (ratio_of negative (numeral_value base (ds ++ c ∷ parts.0)) (numeral_value base parts.1))
    (and_left _ _ (mixed base ds c parts.0 e))

no_ratio : (base : ℕ) (negative : Bool) (ds : List ℕ) (c : ℕ) (cs : List ℕ) → base ≤ 36 → are_digits base ds ≡ true → is_digit_in base c ≡ false
    → (b : Bool) → is_slash c ≡ b → (b && not (is_empty ds)) ≡ false → ratio_form base negative (cut_at_first is_slash (ds ++ c ∷ cs)) ≡ None
no_ratio base negative ds c cs top are e false slash none =
    ap (ratio_form base negative) (cut_past is_slash ds c cs (no_slash base ds top are) slash) ∙ far_slash base negative ds c (cut_at_first is_slash cs) e
no_ratio base negative ds c cs top are e true slash none =
    ap (ratio_form base negative) (cut_with is_slash ds c cs (no_slash base ds top are) slash)
    ∙ passed_over (is_numeral base ds && is_numeral base cs) (ratio_of negative (numeral_value base ds) (numeral_value base cs)) (and_left _ _ (and_left _ _ none))

no_rational : (base : ℕ) (negative : Bool) (ds : List ℕ) (c : ℕ) (cs : List ℕ) → base ≤ 36 → are_digits base ds ≡ true → is_digit_in base c ≡ false
    → (is_slash c && not (is_empty ds)) ≡ false → rational_form base negative (ds ++ c ∷ cs) ≡ None
no_rational base negative ds c cs top are e none =
    neither _ _ (passed_over (is_numeral base (ds ++ c ∷ cs)) (integer_of negative (numeral_value base (ds ++ c ∷ cs))) (mixed base ds c cs e))
    (no_ratio base negative ds c cs top are e (is_slash c) refl none)

-- ---- the cases of a text that begins with digits

pub rational_without : (base : ℕ) (negative : Bool) (text rest : List ℕ) (size : Option ℕ) → base ≤ 36 → IsLeading base text false size rest
    → rational_form base negative text ≡ None
rational_without base negative text [] size top h = by h.leads.digits h.leads.split h.leads.there
  where
    by : (ds : List ℕ) → text ≡ ds ++ [] → false ≡ not (is_empty ds) → rational_form base negative text ≡ None
    by [] split there = ap (rational_form base negative) split
    by (d ∷ ds) split there = absurd cc
rational_without base negative text (c ∷ rest) size top h =
    ap (rational_form base negative) h.leads.split
    ∙ no_rational base negative h.leads.digits c rest top h.leads.are h.ends (and_right _ _ (sym h.leads.there))

pub rational_whole : (base : ℕ) (negative : Bool) (text : List ℕ) (size : Option ℕ) → (h : IsLeading base text true size [])
    → rational_form base negative text ≡ Some (integer_of negative (numeral_value base h.leads.digits))
rational_whole base negative text size h =
    ap (rational_form base negative) (h.leads.split ∙ append-nil h.leads.digits)
    ∙ (rw (taken (is_numeral base h.leads.digits) (integer_of negative (numeral_value base h.leads.digits)) (and_from _ _ (sym h.leads.there) h.leads.are)) refl)

pub rational_over : (base : ℕ) (negative : Bool) (text below : List ℕ) (size : Option ℕ) → base ≤ 36 → (h : IsLeading base text true size (47 ∷ below))
    → is_numeral base below ≡ true → rational_form base negative text ≡ Some (ratio_of negative (numeral_value base h.leads.digits) (numeral_value base below))
rational_over base negative text below size top h e =
    let ds = h.leads.digits in
    ap (rational_form base negative) h.leads.split
    ∙ by_second _ _ _ (passed_over (is_numeral base (ds ++ 47 ∷ below)) (integer_of negative (numeral_value base (ds ++ 47 ∷ below))) (mixed base ds 47 below h.ends))
    (ap (ratio_form base negative) (cut_with is_slash ds 47 below (no_slash base ds top h.leads.are) refl)
    ∙ taken (is_numeral base ds && is_numeral base below) _ (and_from _ _ (and_from _ _ (sym h.leads.there) h.leads.are) e))

pub rational_under : (base : ℕ) (negative : Bool) (text below : List ℕ) (some : Bool) (size : Option ℕ) → base ≤ 36 → IsLeading base text some size (47 ∷ below)
    → is_numeral base below ≡ false → rational_form base negative text ≡ None
rational_under base negative text below some size top h e =
    let ds = h.leads.digits in
    ap (rational_form base negative) h.leads.split
    ∙ neither _ _ (passed_over (is_numeral base (ds ++ 47 ∷ below)) (integer_of negative (numeral_value base (ds ++ 47 ∷ below))) (mixed base ds 47 below h.ends))
    (ap (ratio_form base negative) (cut_with is_slash ds 47 below (no_slash base ds top h.leads.are) refl)
    ∙ passed_over (is_numeral base ds && is_numeral base below) (ratio_of negative (numeral_value base ds) (numeral_value base below)) (and_right _ _ e))

no_slash_here : (c : ℕ) (cs : List ℕ) (b : Bool) → (c == 47) ≡ b → (if b then Some cs else None) ≡ None → is_slash c ≡ false
no_slash_here c cs true e none = absurd cc
no_slash_here c cs false e none = e

pub rational_other : (base : ℕ) (negative : Bool) (text rest : List ℕ) (some : Bool) (size : Option ℕ) → base ≤ 36 → IsLeading base text some size rest
    → is_empty rest ≡ false → after_code 47 rest ≡ None → rational_form base negative text ≡ None
rational_other base negative text [] some size top h e none = absurd cc
rational_other base negative text (c ∷ rest) some size top h e none =
    ap (rational_form base negative) h.leads.split
    ∙ no_rational base negative h.leads.digits c rest top h.leads.are h.ends (and_left _ _ (no_slash_here c rest (c == 47) refl none))

slash_here : (c : ℕ) (cs below : List ℕ) (b : Bool) → (c == 47) ≡ b → (if b then Some cs else None) ≡ Some below → c ∷ cs ≡ 47 ∷ below
slash_here c cs below true e some =
    let same : cs ≡ below = cc in
    let code : c ≡ 47 = eqb-true c 47 e in
    λ i. code i ∷ same i
slash_here c cs below false e some = absurd cc

-- a slash is before what comes after it
pub below_slash : (rest below : List ℕ) → after_code 47 rest ≡ Some below → rest ≡ 47 ∷ below
below_slash [] below some = absurd cc
below_slash (c ∷ rest) below some = slash_here c rest below (c == 47) refl some
