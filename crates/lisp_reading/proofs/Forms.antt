-- The text of a form is read again, alone, as the same form.
use Rattle.std.proofs.Common.{◌≡◌, ℕ, zero, suc, ◌+◌, ◌-◌, ◌<◌, ◌≤◌, Bool, true, false, List, [], ◌∷◌, ◌++◌, length, take, drop, Ok, Err, refl, sym, ap, subst, ◌∙◌, append_assoc, length-append, arith}
use Rattle.std.specs.Prelude.{nat_le, if◌then◌else◌}
use Rattle.std.proofs.lemmas.Bool.{le-leb}
use Rattle.token_scan.specs.declared.mark.Mark.{Mark}
use Rattle.lisp_object.specs.declared.refusal.TheConstants.{FORM_TOO_LONG}
use Rattle.lisp_object.specs.Object.{Object}
use Rattle.readtable_core.specs.Tables.{Table}
use Rattle.token_scan.specs.Tokens.{outside}
use Rattle.lisp_reading.specs.Plans.{Read, run}
use Rattle.lisp_reading.specs.Setting.{Setting}
use Rattle.lisp_reading.specs.declared.attempt.Found.{Found}
use Rattle.lisp_reading.specs.declared.attempt.Found.TheVariants.{Nothing as nothing, One as one, LoneDot as lone_dot, TheEnd as the_end}
use Rattle.lisp_reading.specs.Reading.{is_whitespace, token_found, attempt, ReadingResult, form, space_at, outcome, reads_in, reads_at, reads, IsFramed}
use Rattle.lisp_reading.proofs.Framing.{Framed, framed}
use Rattle.lisp_reading.proofs.Steps.{eats}
use Rattle.lisp_reading.proofs.Offsets.{Parted, Parts, parts}

abbrev pub first : Setting → List ℕ → Read Found
first setting text = run setting.table setting.limits (attempt setting setting.limits.nesting) 0 text

-- where a form is: after so much of the text
pub record Stood (setting : Setting) (begun : ℕ) (whole : List ℕ) (x : Object) (start «end» next : ℕ) : Type 0 where
  pub front : List ℕ
  pub here : List ℕ
  pub split : whole ≡ front ++ here
  pub start_is : start ≡ begun + length front
  pub is_token : Bool
  pub size : ℕ
  pub rest : List ℕ
  pub found : first setting here ≡ Ok (one is_token x, size, rest)
  pub end_is : «end» ≡ start + size
  pub next_is : next ≡ start + size + space_at setting.table is_token rest

stood_behind : (setting : Setting) (begun at : ℕ) (whole cs : List ℕ) (x : Object) (start «end» next : ℕ) → Parted 0 whole at cs
    → Stood setting (begun + at) cs x start «end» next → Stood setting begun whole x start «end» next
stood_behind setting begun at whole cs x start «end» next p s = record {
  front = p.taken ++ s.front;
  here = s.here;
  split = p.split ∙ ap (λ (ds : List ℕ). p.taken ++ ds) s.split ∙ sym (append_assoc p.taken s.front s.here);
  start_is = omega (arith, s.start_is, p.offset, length-append p.taken s.front);
  is_token = s.is_token;
  size = s.size;
  rest = s.rest;
  found = s.found;
  end_is = s.end_is;
  next_is = s.next_is;
}

stood_step : (setting : Setting) (more : ℕ → List ℕ → ReadingResult) (begun : ℕ) (whole : List ℕ) (x : Object) (start «end» next : ℕ) (r : Read Found)
    → ((at : ℕ) (cs : List ℕ) → more at cs ≡ form x start «end» next → Stood setting at cs x start «end» next)
    → first setting whole ≡ r → Parts 0 whole r → outcome setting.table begun more r ≡ form x start «end» next → Stood setting begun whole x start «end» next
stood_step setting more begun whole x start «end» next (Ok (nothing token, at, cs)) all found p e =
    stood_behind setting begun at whole cs x start «end» next p (all (begun + at) cs e)
stood_step setting more begun whole x start «end» next (Ok (one token y, at, cs)) all found p e =
    let y_is : y ≡ x = cc in
    let start_is : begun ≡ start = cc in
    let end_is : begun + at ≡ «end» = cc in
    let next_is : begun + at + space_at setting.table token cs ≡ next = cc in
    record {
      front = [];
      here = whole;
      split = refl;
      start_is = omega (arith, start_is);
      is_token = token;
      size = at;
      rest = cs;
      found = found ∙ ap (λ (z : Object). Ok (one token z, at, cs)) y_is;
      end_is = omega (arith, start_is, end_is);
      next_is = omega (arith, start_is, next_is);
    }
stood_step setting more begun whole x start «end» next (Ok (lone_dot, at, cs)) all found p e = cc
stood_step setting more begun whole x start «end» next (Ok (the_end, at, cs)) all found p e = cc
stood_step setting more begun whole x start «end» next (Err f) all found p e = cc

pub stood : (setting : Setting) (n begun : ℕ) (whole : List ℕ) (x : Object) (start «end» next : ℕ) → reads_in setting n begun whole ≡ form x start «end» next
    → Stood setting begun whole x start «end» next
unfolding reads_in
stood setting zero begun whole x start «end» next e = cc
stood setting (suc n) begun whole x start «end» next e =
    stood_step setting (λ next cs. reads_in setting n next cs) begun whole x start «end» next (first setting whole)
    (λ at cs f. stood setting n at cs x start «end» next f) refl (parts setting.table setting.limits (attempt setting setting.limits.nesting) 0 whole) e

pub space_small : (table : Table) (token : Bool) (rest : List ℕ) → (space_at table token rest ≤ 1) × (space_at table token rest ≤ length rest)
space_small table false rest = (omega arith, omega arith)
space_small table true [] = (omega arith, omega arith)
space_small table true (c ∷ cs) = elim (is_whitespace table c) as (λ b. ((if b then 1 else 0) ≤ 1) × ((if b then 1 else 0) ≤ suc (length cs))) [ true ↦ (omega arith, omega arith) | false ↦ (omega arith, omega arith) ]

no_space : (table : Table) (token : Bool) → space_at table token [] ≡ 0
no_space table true = refl
no_space table false = refl

pub drop_front : (front here : List ℕ) → drop (length front) (front ++ here) ≡ here
drop_front [] here = refl
drop_front (c ∷ cs) here = drop_front cs here

-- the empty text has no object
pub the_end_there : (setting : Setting) → first setting [] ≡ Ok (the_end, 0, [])
unfolding run outside
the_end_there setting =
    let e : nat_le 0 setting.limits.text ≡ true = le-leb 0 setting.limits.text (omega arith) in
    let on : Read (List Mark) → Read Found =
    λ r. elim r [ Ok p ↦ run setting.table setting.limits (token_found setting p.0) p.1 p.2 | Err e ↦ Err e ] in
    let cut : Bool → Read (List Mark) = λ b. elim b [ true ↦ Ok ([], 0, []) | false ↦ Err (record { number = FORM_TOO_LONG; at = setting.limits.text }) ] in
    ap (λ (b : Bool). on (cut b)) e

abbrev count_of : Read Found → ℕ
count_of (Ok (the_end, at, cs)) = 0
count_of (Ok (nothing token, at, cs)) = 1
count_of (Ok (one token x, at, cs)) = 1
count_of (Ok (lone_dot, at, cs)) = 1
count_of (Err e) = 1

takes_some : (setting : Setting) (x : Object) (token : Bool) (size : ℕ) → first setting [] ≡ Ok (one token x, size, []) → 0 < 0
takes_some setting x token size e = let no : 0 ≡ 1 = ap count_of (sym (the_end_there setting) ∙ e) in omega (arith, no)

reads_alone : (setting : Setting) (text : List ℕ) (x : Object) (token : Bool) (size : ℕ) → first setting text ≡ Ok (one token x, size, [])
    → reads setting text ≡ form x 0 size size
unfolding reads reads_in
reads_alone setting text x token size found =
    let n : length text + 1 ≡ suc (length text) = omega arith in
    let sum : 0 + size ≡ size = omega arith in
    let whole : 0 + size + space_at setting.table token [] ≡ size = omega (arith, no_space setting.table token) in
    ap (λ n. reads_in setting n 0 text) n
    ∙ ap (outcome setting.table 0 (λ next cs. reads_in setting (length text) next cs)) found
    ∙ (λ i. form x 0 (sum i) (whole i))

pub form_framed : (setting : Setting) (whole : List ℕ) (x : Object) (start «end» next : ℕ) → reads setting whole ≡ form x start «end» next
    → IsFramed setting whole x start «end» next
unfolding reads
form_framed setting whole x start «end» next e =
    let s = stood setting (length whole + 1) 0 whole x start «end» next e in
    let plan = attempt setting setting.limits.nesting in
    let space = space_small setting.table s.is_token s.rest in
    let p : Parted 0 s.here s.size s.rest = subst (λ (r : Read Found). Parts 0 s.here r) s.found (parts setting.table setting.limits plan 0 s.here) in
    let f : Framed (λ k. first setting (take k s.here)) 0 (Ok (one s.is_token x, s.size, s.rest)) =
    subst (λ (r : Read Found). Framed (λ k. first setting (take k s.here)) 0 r) s.found (framed setting.table setting.limits plan 0 s.here) in
    let count_is : f.0 + 0 ≡ s.size = omega (arith, f.1) in
    let alone : first setting (take s.size s.here) ≡ Ok (one s.is_token x, s.size, []) =
    subst (λ n. first setting (take n s.here) ≡ Ok (one s.is_token x, s.size, [])) count_is (f.2 0) in
    let takes_one : (n : ℕ) → n ≡ s.size → 0 < n = λ n. elim n as (λ n. n ≡ s.size → 0 < n) [
      | zero ↦ λ none. takes_some setting x s.is_token s.size (subst (λ n. first setting (take n s.here) ≡ Ok (one s.is_token x, s.size, [])) (sym none) alone)
      | suc n ↦ λ some. omega arith
    ] in
    let some : 0 < s.size = takes_one s.size refl in
    let size_is : «end» - start ≡ s.size = omega (arith, s.end_is) in
    let start_is : start ≡ length s.front = omega (arith, s.start_is) in
    let here_is : drop start whole ≡ s.here = (λ i. drop (start_is i) (s.split i)) ∙ drop_front s.front s.here in
    let total : length whole ≡ length s.front + length s.here = ap length s.split ∙ length-append s.front s.here in
    let part : length s.here ≡ length p.taken + length s.rest = ap length p.split ∙ length-append p.taken s.rest in
    record {
      some = omega (arith, some, s.end_is);
      after = omega (arith, s.end_is, s.next_is);
      one = omega (arith, s.end_is, s.next_is, space.0);
      inside = omega (arith, s.next_is, start_is, total, part, p.offset, space.1);
      again = (λ i. reads setting (take (size_is i) (here_is i))) ∙ reads_alone setting (take s.size s.here) x s.is_token s.size alone
          ∙ (λ i. form x 0 (sym size_is i) (sym size_is i));
    }

-- ---- a form, attempt by attempt

-- what came to nothing took a byte
pub nothing_takes : (setting : Setting) (whole cs : List ℕ) (token : Bool) (at : ℕ) → first setting whole ≡ Ok (nothing token, at, cs) → Parted 0 whole at cs → length cs < length whole
nothing_takes setting whole cs token at found p =
    let some : 0 < at = eats setting.table setting.limits (attempt setting setting.limits.nesting) 0 at whole cs (nothing token)
    (λ f. let never : 0 ≡ 1 = ap count_of (sym (the_end_there setting) ∙ f) in omega (arith, never)) found in
    let total : length whole ≡ length p.taken + length cs = ap length p.split ∙ length-append p.taken cs in
    omega (arith, some, p.offset, total)

outcome_same : (setting : Setting) (more again : ℕ → List ℕ → ReadingResult) (start : ℕ) (whole : List ℕ) (r : Read Found) → first setting whole ≡ r → Parts 0 whole r
    → ((at : ℕ) (cs : List ℕ) → length cs < length whole → more at cs ≡ again at cs) → outcome setting.table start more r ≡ outcome setting.table start again r
outcome_same setting more again start whole (Ok (nothing token, at, cs)) found p same = same (start + at) cs (nothing_takes setting whole cs token at found p)
outcome_same setting more again start whole (Ok (one token x, at, cs)) found p same = refl
outcome_same setting more again start whole (Ok (lone_dot, at, cs)) found p same = refl
outcome_same setting more again start whole (Ok (the_end, at, cs)) found p same = refl
outcome_same setting more again start whole (Err f) found p same = refl

reads_same : (setting : Setting) (n m start : ℕ) (whole : List ℕ) → length whole < n → length whole < m → reads_in setting n start whole ≡ reads_in setting m start whole
unfolding reads_in
reads_same setting zero m start whole p q = absurd (omega arith)
reads_same setting (suc n) zero start whole p q = absurd (omega arith)
reads_same setting (suc n) (suc m) start whole p q =
    outcome_same setting (λ next cs. reads_in setting n next cs) (λ next cs. reads_in setting m next cs) start whole (first setting whole) refl
    (parts setting.table setting.limits (attempt setting setting.limits.nesting) 0 whole)
    (λ at cs lt. reads_same setting n m at cs (omega arith) (omega arith))

pub reads_is : (setting : Setting) (start : ℕ) (whole : List ℕ)
    → reads_at setting start whole ≡ outcome setting.table start (λ next cs. reads_at setting next cs) (first setting whole)
unfolding reads_in
reads_is setting start whole =
    let n : length whole + 1 ≡ suc (length whole) = omega arith in
    ap (λ n. reads_in setting n start whole) n
    ∙ outcome_same setting (λ next cs. reads_in setting (length whole) next cs) (λ next cs. reads_at setting next cs) start whole (first setting whole) refl
    (parts setting.table setting.limits (attempt setting setting.limits.nesting) 0 whole)
    (λ at cs lt. reads_same setting (length whole) (length cs + 1) at cs (omega arith) (omega arith))
