-- Folding the case keeps characters below 128.
use Rattle.std.proofs.Common.{◌≡◌, ◌+◌, ◌-◌, ◌<◌, ◌≤◌, ℕ, Bool, true, false, not, ◌&&◌, List, [], ◌∷◌, map, refl, arith}
use Rattle.std.specs.Prelude.{if◌then◌else◌, nat_lt, nat_le}
use Rattle.std.specs.List.{list_all}
use Rattle.std.proofs.lemmas.Bool.{and_parts, and_from, lt-ltb, ltb-true, leb-true}
use Rattle.readtable_core.specs.Characters.{is_upper_case, is_lower_case, upper_case}
use Rattle.readtable_core.specs.declared.table.Case.{Case}
use Rattle.readtable_core.specs.declared.table.Case.TheVariants.{Upcase, Downcase, Preserve, Invert}
use Rattle.token_scan.specs.declared.mark.Mark.{Mark}
use Rattle.token_scan.specs.declared.mark.Mark.TheVariants.{Plain, Quoted, Bar}
use Rattle.token_scan.specs.Marks.{is_ascii_mark, are_ascii}
use Rattle.token_meaning.specs.Folding.{lower_case, on_plain, in_upper_case, in_lower_case, has_upper_case, has_lower_case, inverted_marks, folded_marks}

upper_below : (c : ℕ) → nat_lt c 128 ≡ true → nat_lt (upper_case c) 128 ≡ true
upper_below c e =
    let below : c < 128 = ltb-true _ _ e in
    elim (is_lower_case c) as (λ b. nat_lt (if b then c - 32 else c) 128 ≡ true) [ true ↦ lt-ltb _ _ (omega arith) | false ↦ e ]

lower_by : (c : ℕ) (b : Bool) → is_upper_case c ≡ b → nat_lt c 128 ≡ true → nat_lt (if b then c + 32 else c) 128 ≡ true
lower_by c true upper e =
    let both = and_parts (nat_le 65 c) (nat_le c 90) upper in
    let most : c ≤ 90 = leb-true c 90 both.1 in
    lt-ltb _ _ (omega arith)
lower_by c false upper e = e

mapped : (change : ℕ → ℕ) → ((c : ℕ) → nat_lt c 128 ≡ true → nat_lt (change c) 128 ≡ true) → (marks : List Mark)
    → are_ascii marks ≡ true → are_ascii (map (on_plain change) marks) ≡ true
mapped change kept [] e = refl
mapped change kept (Plain c ∷ ms) e = let both = and_parts (nat_lt c 128) (are_ascii ms) e in and_from _ _ (kept c both.0) (mapped change kept ms both.1)
mapped change kept (Quoted c ∷ ms) e = let both = and_parts (nat_lt c 128) (are_ascii ms) e in and_from _ _ both.0 (mapped change kept ms both.1)
mapped change kept (Bar ∷ ms) e = mapped change kept ms e

upper_ascii : (marks : List Mark) → are_ascii marks ≡ true → are_ascii (in_upper_case marks) ≡ true
upper_ascii marks e = mapped upper_case upper_below marks e

lower_ascii : (marks : List Mark) → are_ascii marks ≡ true → are_ascii (in_lower_case marks) ≡ true
lower_ascii marks e = mapped lower_case (λ c below. lower_by c (is_upper_case c) refl below) marks e

chosen : (b : Bool) (xs ys : List Mark) → are_ascii xs ≡ true → are_ascii ys ≡ true → are_ascii (if b then xs else ys) ≡ true
chosen true xs ys e f = e
chosen false xs ys e f = f

pub folded_ascii : (letters : Case) (marks : List Mark) → are_ascii marks ≡ true → are_ascii (folded_marks letters marks) ≡ true
folded_ascii Upcase marks e = upper_ascii marks e
folded_ascii Downcase marks e = lower_ascii marks e
folded_ascii Preserve marks e = e
folded_ascii Invert marks e =
    chosen (not (has_upper_case marks)) _ _ (upper_ascii marks e)
    (chosen (not (has_lower_case marks)) _ _ (lower_ascii marks e) e)
