-- Form after form of a text.
use Rattle.std.proofs.Common.{◌≡◌, ℕ, zero, suc, ◌+◌, ◌-◌, ◌≤◌, ◌<◌, List, [], ◌∷◌, ◌++◌, length, take, drop, length-drop, refl, sym, ap, subst, ◌∙◌, append_assoc, arith, add-one}
use Rattle.std.proofs.lemmas.List.{append-nil, take_all}
use Rattle.lisp_object.specs.Object.{Object}
use Rattle.lisp_reading.specs.Setting.{Setting}
use Rattle.lisp_reading.specs.Reading.{ReadingResult, form, empty, refused, reads}
use Rattle.lisp_reading.specs.Deciding.{decided_from}
use Rattle.form_check.specs.Checking.{Checking, after_line, checked_in, found_after, with_one}
use Rattle.form_check.specs.declared.checking.Unreadable.{Unreadable}

-- after those that were found before
abbrev pub after_found : List Unreadable → Checking → Checking
after_found before found = (found.0, before ++ found.1)

-- one turn more
turn : (setting : Setting) (n forms whole : ℕ) (text : List ℕ)
    → checked_in setting (suc n) forms whole text
    ≡ found_after (λ rest. checked_in setting n (suc forms) whole rest) forms (whole - length text) (decided_from setting text) text (reads setting text)
unfolding checked_in
turn setting n forms whole text = refl

none_left : (setting : Setting) (forms whole : ℕ) (text : List ℕ) → checked_in setting 0 forms whole text ≡ (forms, [])
unfolding checked_in
none_left setting forms whole text = refl

-- so many turns are left, of which there is one
abbrev pub left : ℕ → ℕ → ℕ
left whole forms = whole + 1 - forms

one_turn : (setting : Setting) (forms whole : ℕ) (text : List ℕ) → forms < whole + 1
    → checked_in setting (left whole forms) forms whole text
    ≡ found_after (λ rest. checked_in setting (left whole (forms + 1)) (forms + 1) whole rest) forms (whole - length text) (decided_from setting text) text (reads setting text)
one_turn setting forms whole text more =
    let n : ℕ = left whole (forms + 1) in
    let is : left whole forms ≡ suc n = omega (arith, more) in
    ap (λ k. checked_in setting k forms whole text) is ∙ turn setting n forms whole text
    ∙ ap (λ k. found_after (λ rest. checked_in setting n k whole rest) forms (whole - length text) (decided_from setting text) text (reads setting text)) (sym (add-one forms))

module _ (setting : Setting) (forms whole : ℕ) (text : List ℕ) (before : List Unreadable) (all : Checking) (more : forms < whole + 1)
    (so_far : after_found before (checked_in setting (left whole forms) forms whole text) ≡ all) where
  abbrev next : List ℕ → Checking
  next rest = checked_in setting (left whole (forms + 1)) (forms + 1) whole rest

  by_outcome : (o : ReadingResult) → reads setting text ≡ o
      → after_found before (found_after next forms (whole - length text) (decided_from setting text) text o) ≡ all
  by_outcome o is =
      sym (ap (λ z. after_found before (found_after next forms (whole - length text) (decided_from setting text) text z)) is)
      ∙ sym (ap (after_found before) (one_turn setting forms whole text more)) ∙ so_far

  pub found_nothing : reads setting text ≡ empty → (forms, before) ≡ all
  found_nothing is = ap (λ z. (forms, z)) (sym (append-nil before)) ∙ by_outcome empty is

  pub found_form : (x : Object) (start «end» following : ℕ) → reads setting text ≡ form x start «end» following
      → after_found before (checked_in setting (left whole (forms + 1)) (forms + 1) whole (drop following text)) ≡ all
  found_form x start «end» following is = by_outcome (form x start «end» following) is

  pub found_refusal : (number start at : ℕ) (one : Unreadable) → reads setting text ≡ refused number at → decided_from setting text ≡ start
      → one ≡ record { number = number; forms = forms; start = (whole - length text) + start; at = (whole - length text) + at }
      → after_found (before ++ one ∷ []) (checked_in setting (left whole (forms + 1)) (forms + 1) whole (after_line (drop at text))) ≡ all
  found_refusal number start at one is begins same =
      let rest : Checking = next (after_line (drop at text)) in
      ap (λ z. (rest.0, z)) (append_assoc before (one ∷ []) rest.1)
      ∙ ap (λ u. (rest.0, before ++ u ∷ rest.1)) same
      ∙ ap (λ s. (rest.0, before ++ record { number = number; forms = forms; start = (whole - length text) + s; at = (whole - length text) + at } ∷ rest.1)) (sym begins)
      ∙ by_outcome (refused number at) is

-- after the last turn
pub at_last : (setting : Setting) (forms whole : ℕ) (text : List ℕ) (before : List Unreadable) (all : Checking) → whole + 1 ≤ forms
    → after_found before (checked_in setting (left whole forms) forms whole text) ≡ all → (forms, before) ≡ all
at_last setting forms whole text before all far so_far =
    let is : left whole forms ≡ 0 = omega (arith, far) in
    ap (λ z. (forms, z)) (sym (append-nil before))
    ∙ sym (ap (after_found before) (ap (λ k. checked_in setting k forms whole text) is ∙ none_left setting forms whole text)) ∙ so_far

-- what is left of a text behind so many bytes
pub behind : (rest : List ℕ) (n : ℕ) → take (length rest - n) (drop n rest) ≡ drop n rest
behind rest n = take_all (length rest - n) (drop n rest) (rw (length-drop n rest) (omega arith))

pub within_rest : (rest now text : List ℕ) (n : ℕ) → now ≡ drop n rest → length rest ≤ length text → length now ≤ length text
within_rest rest now text n is within =
    let size : length (drop n rest) ≡ length rest - n = length-drop n rest in
    subst (λ (t : List ℕ). length t ≤ length text) (sym is) (omega (arith, size, within))

pub within_line : (rest now given text : List ℕ) (n : ℕ) → now ≡ given → length given ≤ length (take (length rest - n) (drop n rest)) → length rest ≤ length text
    → length now ≤ length text
within_line rest now given text n is more within =
    let size : length (take (length rest - n) (drop n rest)) ≡ length rest - n = ap length (behind rest n) ∙ length-drop n rest in
    subst (λ (t : List ℕ). length t ≤ length text) (sym is) (omega (arith, size, more, within))
