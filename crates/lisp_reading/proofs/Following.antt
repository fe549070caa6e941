-- What is read before a byte is read whatever follows that byte.
use Rattle.std.proofs.Common.{◌≡◌, ℕ, zero, suc, ◌+◌, ◌-◌, ◌<◌, Bool, true, false, List, [], ◌∷◌, ◌++◌, length, take, drop, Result, Ok, Err, IfOk, refl, sym, ap, subst, ◌∙◌, append_assoc, length-append, arith}
use Rattle.std.specs.Prelude.{nat_le, if◌then◌else◌}
use Rattle.lisp_object.specs.declared.refusal.TheConstants.{FORM_TOO_LONG}
use Rattle.lisp_object.specs.Object.{Object}
use Rattle.readtable_core.specs.Tables.{Table}
use Rattle.token_scan.specs.declared.mark.Mark.{Mark}
use Rattle.token_scan.specs.Tokens.{ScannedBytes, token_in, escaped_token_in}
use Rattle.token_scan.specs.Spelling.{IsSpelledAt}
use Rattle.token_scan.proofs.Standing.{token_stands, escaped_token_stands}
use Rattle.token_meaning.specs.Results.{scan_refusal_number}
use Rattle.lisp_reading.specs.Plans.{Plan, gives, refuses, takes, scans, Read, within, stands_below, limited_token, token_at_front, run}
use Rattle.lisp_reading.specs.declared.limits.Limits.{Limits}
use Rattle.lisp_reading.specs.declared.attempt.Found.{Found}
use Rattle.lisp_reading.specs.declared.attempt.Found.TheVariants.{Nothing as nothing, One as one, LoneDot as lone_dot, TheEnd as the_end}
use Rattle.lisp_reading.specs.Setting.{Setting}
use Rattle.lisp_reading.specs.Reading.{attempt, is_whitespace, ReadingResult, form, empty, space_at, outcome, reads_in, reads_at, reads}
use Rattle.lisp_reading.proofs.Offsets.{Parted, Parts, parts}
use Rattle.lisp_reading.proofs.Forms.{first, the_end_there, reads_is, stood, drop_front, space_small}
use Rattle.lisp_reading.proofs.Framing.{Framed, framed}

-- Where a byte is left, the same is given with more bytes at the end, and these are left too.
abbrev pub Follows : {A E : Type 0} → List ℕ → Result (A × ℕ × List ℕ) E → Result (A × ℕ × List ℕ) E → Type 0
Follows more longer (Ok (x, next, [])) = Unit {0}
Follows more longer (Ok (x, next, d ∷ ds)) = longer ≡ Ok (x, next, d ∷ ds ++ more)
Follows more longer (Err e) = Unit {0}

-- of no byte none is left
empty_left : {A : Type 0} (more : List ℕ) (longer r : Read A) (at : ℕ) → Parts at [] r → Follows more longer r
empty_left more longer (Ok (x, next, [])) at p = tt
empty_left more longer (Ok (x, next, d ∷ ds)) at p = let none : 0 ≡ length p.taken + suc (length ds) = ap length p.split ∙ length-append p.taken (d ∷ ds) in absurd (omega (arith, none))
empty_left more longer (Err e) at p = tt

byte_follows : {A : Type 0} (more : List ℕ) (b full : Bool) (at : ℕ) (r s r2 s2 : Read A) → Follows more r2 r → Follows more s2 s
    → Follows more (elim b [ true ↦ within full at r2 | false ↦ s2 ]) (elim b [ true ↦ within full at r | false ↦ s ])
byte_follows more true true at r s r2 s2 p q = tt
byte_follows more true false at r s r2 s2 p q = p
byte_follows more false full at r s r2 s2 p q = q

-- ---- tokens

token_at : (table : Table) (scan : List ℕ → ScannedBytes) (at : ℕ) (text more : List ℕ) (r : ScannedBytes)
    → IfOk r (λ t. IsSpelledAt table scan at text t.0 t.1 t.2) → Follows more (scan (text ++ more)) r
token_at table scan at text more (Ok (marks, next, [])) st = tt
token_at table scan at text more (Ok (marks, next, d ∷ ds)) st =
    ap scan (ap (λ (cs : List ℕ). cs ++ more) st.split ∙ append_assoc st.taken (d ∷ ds) more) ∙ st.again (d ∷ ds ++ more) st.ends
token_at table scan at text more (Err e) st = tt

pub token_follows : (escaped : Bool) (table : Table) (limit at : ℕ) (text more : List ℕ)
    → Follows more (token_at_front escaped table limit at (text ++ more)) (token_at_front escaped table limit at text)
token_follows false table limit at text more =
    token_at table (token_in table limit at) at text more (token_in table limit at text) (token_stands table limit at text)
token_follows true table limit at text more =
    token_at table (escaped_token_in table limit at) at text more (escaped_token_in table limit at text) (escaped_token_stands table limit at text)

module _ {A : Type 0} (table : Table) (limits : Limits) (on : List Mark → Plan A) (more : List ℕ) where
  abbrev step : Read (List Mark) → Read A
  step q = elim q [ Ok p ↦ run table limits (on p.0) p.1 p.2 | Err e ↦ Err e ]

  abbrev cut : ScannedBytes → Read (List Mark)
  cut r = limited_token limits.text r (λ p. p.1)

  goes_follows : (longer r : ScannedBytes) → ((marks : List Mark) (next : ℕ) (ds : List ℕ) → Follows more (run table limits (on marks) next (ds ++ more)) (run table limits (on marks) next ds))
      → Follows more longer r → Follows more (step (cut longer)) (step (cut r))
  goes_follows longer (Ok (marks, next, [])) all h =
      elim (nat_le next limits.text) as (λ b. Follows more (step (cut longer)) (step (elim b [ true ↦ Ok (marks, next, []) | false ↦ Err (record { number = FORM_TOO_LONG; at = limits.text }) ]))) [
        | true ↦ empty_left more (step (cut longer)) (run table limits (on marks) next []) next (parts table limits (on marks) next [])
        | false ↦ tt
      ]
  goes_follows longer (Ok (marks, next, d ∷ ds)) all h =
      let by : (b : Bool) → Follows more (step (elim b [ true ↦ Ok (marks, next, d ∷ ds ++ more) | false ↦ Err (record { number = FORM_TOO_LONG; at = limits.text }) ]))
      (step (elim b [ true ↦ Ok (marks, next, d ∷ ds) | false ↦ Err (record { number = FORM_TOO_LONG; at = limits.text }) ])) =
      λ b. elim b as (λ b. Follows more (step (elim b [ true ↦ Ok (marks, next, d ∷ ds ++ more) | false ↦ Err (record { number = FORM_TOO_LONG; at = limits.text }) ]))
      (step (elim b [ true ↦ Ok (marks, next, d ∷ ds) | false ↦ Err (record { number = FORM_TOO_LONG; at = limits.text }) ]))) [ true ↦ all marks next (d ∷ ds) | false ↦ tt ] in
      subst (λ (longer : ScannedBytes). Follows more (step (cut longer)) (step (cut (Ok (marks, next, d ∷ ds))))) (sym h) (by (nat_le next limits.text))
  goes_follows longer (Err e) all h =
      elim (stands_below limits.text e.refusal e.at) as (λ b. Follows more (step (cut longer)) (step (elim b [
        | true ↦ Err (record { number = scan_refusal_number e.refusal; at = e.at })
        | false ↦ Err (record { number = FORM_TOO_LONG; at = limits.text })
      ]))) [ true ↦ tt | false ↦ tt ]

-- ---- plans

pub follows : {A : Type 0} (table : Table) (limits : Limits) (plan : Plan A) (at : ℕ) (cs more : List ℕ)
    → Follows more (run table limits plan at (cs ++ more)) (run table limits plan at cs)
unfolding run
follows table limits (gives x) at [] more = tt
follows table limits (gives x) at (c ∷ cs) more = refl
follows table limits (refuses code back) at cs more = tt
follows table limits (takes other test on) at [] more =
    empty_left more (run table limits (takes other test on) at more) (run table limits other at []) at (parts table limits other at [])
follows table limits (takes other test on) at (c ∷ cs) more =
    byte_follows more (test c) (nat_le limits.text at) at (run table limits (on c) (at + 1) cs) (run table limits other at (c ∷ cs))
    (run table limits (on c) (at + 1) (cs ++ more)) (run table limits other at (c ∷ cs ++ more))
    (follows table limits (on c) (at + 1) cs more) (follows table limits other at (c ∷ cs) more)
follows table limits (scans escaped limit on) at cs more =
    goes_follows table limits on more (token_at_front escaped table limit at (cs ++ more)) (token_at_front escaped table limit at cs)
    (λ marks next ds. follows table limits (on marks) next ds more) (token_follows escaped table limit at cs more)

-- ---- forms

pub space_front : (table : Table) (token : Bool) (d : ℕ) (ds es : List ℕ) → space_at table token (d ∷ ds) ≡ space_at table token (d ∷ es)
space_front table true d ds es = refl
space_front table false d ds es = refl

-- no form is in the empty text
no_form : (setting : Setting) (n start : ℕ) (x : Object) (from «end» next : ℕ) → reads_in setting n start [] ≡ form x from «end» next → ⊥
unfolding reads_in
no_form setting zero start x from «end» next e = cc
no_form setting (suc n) start x from «end» next e =
    let none : empty ≡ form x from «end» next = sym (ap (outcome setting.table start (λ next cs. reads_in setting n next cs)) (the_end_there setting)) ∙ e in
    cc

module _ (setting : Setting) (x : Object) (from «end» next : ℕ) (more : List ℕ) where
  turn_follows : (again : ℕ → List ℕ → ReadingResult) (start : ℕ) (whole : List ℕ) (r : Read Found)
      → ((at : ℕ) → again at [] ≡ form x from «end» next → ⊥)
      → ((at : ℕ) (cs : List ℕ) → again at cs ≡ form x from «end» next → «end» < at + length cs → reads_at setting at (cs ++ more) ≡ form x from «end» next)
      → Parts 0 whole r → Follows more (first setting (whole ++ more)) r → «end» < start + length whole
      → outcome setting.table start again r ≡ form x from «end» next
      → outcome setting.table start (λ next cs. reads_at setting next cs) (first setting (whole ++ more)) ≡ form x from «end» next
  turn_follows again start whole (Ok (nothing token, at, [])) never all p h lt e = absurd (never (start + at) e)
  turn_follows again start whole (Ok (nothing token, at, d ∷ ds)) never all p h lt e =
      let total : length whole ≡ length p.taken + suc (length ds) = ap length p.split ∙ length-append p.taken (d ∷ ds) in
      ap (outcome setting.table start (λ next cs. reads_at setting next cs)) h ∙ all (start + at) (d ∷ ds) e (omega (arith, lt, total, p.offset))
  turn_follows again start whole (Ok (one token y, at, [])) never all p h lt e =
      let end_is : start + at ≡ «end» = cc in
      let total : length whole ≡ length p.taken + 0 = ap length p.split ∙ length-append p.taken [] in
      absurd (omega (arith, lt, total, p.offset, end_is))
  turn_follows again start whole (Ok (one token y, at, d ∷ ds)) never all p h lt e =
      ap (outcome setting.table start (λ next cs. reads_at setting next cs)) h
      ∙ ap (λ (n : ℕ). form y start (start + at) (start + at + n)) (space_front setting.table token d (ds ++ more) ds) ∙ e
  turn_follows again start whole (Ok (lone_dot, at, cs)) never all p h lt e = cc
  turn_follows again start whole (Ok (the_end, at, cs)) never all p h lt e = cc
  turn_follows again start whole (Err f) never all p h lt e = cc

  reads_follow : (n start : ℕ) (whole : List ℕ) → reads_in setting n start whole ≡ form x from «end» next → «end» < start + length whole
      → reads_at setting start (whole ++ more) ≡ form x from «end» next
  unfolding reads_in
  reads_follow zero start whole e lt = cc
  reads_follow (suc n) start whole e lt =
      let plan = attempt setting setting.limits.nesting in
      reads_is setting start (whole ++ more)
      ∙ turn_follows (λ next cs. reads_in setting n next cs) start whole (first setting whole) (λ at. no_form setting n at x from «end» next)
      (λ at cs f less. reads_follow n at cs f less) (parts setting.table setting.limits plan 0 whole) (follows setting.table setting.limits plan 0 whole more) lt e

pub form_follows : (setting : Setting) (text more : List ℕ) (x : Object) (start «end» next : ℕ) → reads setting text ≡ form x start «end» next → «end» < length text
    → reads setting (text ++ more) ≡ form x start «end» next
unfolding reads
form_follows setting text more x start «end» next e lt = reads_follow setting x start «end» next more (length text + 1) 0 text e (omega (arith, lt))

-- ---- a form with the whitespace character that is discarded with it

reads_first : (setting : Setting) (text : List ℕ) (x : Object) (token : Bool) (size : ℕ) (rest : List ℕ) → first setting text ≡ Ok (one token x, size, rest)
    → reads setting text ≡ form x 0 size (size + space_at setting.table token rest)
unfolding reads
reads_first setting text x token size rest found =
    let sum : 0 + size ≡ size = omega arith in
    reads_is setting 0 text
    ∙ ap (outcome setting.table 0 (λ next cs. reads_at setting next cs)) found
    ∙ ap (λ (n : ℕ). form x 0 n (n + space_at setting.table token rest)) sum

-- the character that is discarded is the first of the rest
space_kept : (table : Table) (token : Bool) (rest : List ℕ) → 0 < space_at table token rest
    → (space_at table token (take 1 rest) ≡ space_at table token rest) × (length (take 1 rest) ≡ 1)
space_kept table false rest some = absurd (omega (arith, some))
space_kept table true [] some = absurd (omega (arith, some))
space_kept table true (c ∷ cs) some = (refl, refl)

pub form_again : (setting : Setting) (whole more : List ℕ) (x : Object) (start «end» next : ℕ) → reads setting whole ≡ form x start «end» next → «end» < next
    → reads setting (take (next - start) (drop start whole) ++ more) ≡ form x 0 («end» - start) (next - start)
unfolding reads
form_again setting whole more x start «end» next e lt =
    let s = stood setting (length whole + 1) 0 whole x start «end» next e in
    let plan = attempt setting setting.limits.nesting in
    let small = space_small setting.table s.is_token s.rest in
    let kept = space_kept setting.table s.is_token s.rest (omega (arith, lt, s.end_is, s.next_is)) in
    let f : Framed (λ k. first setting (take k s.here)) 0 (Ok (one s.is_token x, s.size, s.rest)) =
    subst (λ (r : Read Found). Framed (λ k. first setting (take k s.here)) 0 r) s.found (framed setting.table setting.limits plan 0 s.here) in
    let text = take (f.0 + 1) s.here in
    let found : first setting text ≡ Ok (one s.is_token x, s.size, take 1 s.rest) = f.2 1 in
    let p : Parted 0 text s.size (take 1 s.rest) = subst (λ (r : Read Found). Parts 0 text r) found (parts setting.table setting.limits plan 0 text) in
    let total : length text ≡ length p.taken + length (take 1 s.rest) = ap length p.split ∙ length-append p.taken (take 1 s.rest) in
    let here : reads setting text ≡ form x 0 s.size (s.size + space_at setting.table s.is_token (take 1 s.rest)) = reads_first setting text x s.is_token s.size (take 1 s.rest) found in
    let size_is : s.size ≡ «end» - start = omega (arith, s.end_is) in
    let next_is : s.size + space_at setting.table s.is_token (take 1 s.rest) ≡ next - start = omega (arith, s.next_is, kept.0) in
    let count_is : next - start ≡ f.0 + 1 = omega (arith, s.next_is, s.end_is, lt, small.0, f.1) in
    let start_is : start ≡ length s.front = omega (arith, s.start_is) in
    let here_is : drop start whole ≡ s.here = (λ i. drop (start_is i) (s.split i)) ∙ drop_front s.front s.here in
    (λ i. reads setting (take (count_is i) (here_is i) ++ more))
    ∙ form_follows setting text more x 0 s.size (s.size + space_at setting.table s.is_token (take 1 s.rest)) here (omega (arith, total, p.offset, kept.1))
    ∙ (λ i. form x 0 (size_is i) (next_is i))

-- what is discarded with a form is one whitespace character, right after it
blank_rest : (table : Table) (token : Bool) (rest : List ℕ) → 0 < space_at table token rest → (c : ℕ) × (more : List ℕ) × (rest ≡ c ∷ more) × (is_whitespace table c ≡ true)
blank_rest table false rest some = absurd (omega (arith, some))
blank_rest table true [] some = absurd (omega (arith, some))
blank_rest table true (c ∷ cs) some = (c, cs, refl, by (is_whitespace table c) refl some)
  where
    by : (b : Bool) → is_whitespace table c ≡ b → 0 < (if b then 1 else 0) → is_whitespace table c ≡ true
    by true e less = e
    by false e less = absurd (omega (arith, less))

pub form_spaced : (setting : Setting) (text : List ℕ) (x : Object) (start «end» next : ℕ) → reads setting text ≡ form x start «end» next → «end» < next
    → (c : ℕ) × (rest : List ℕ) × (drop «end» text ≡ c ∷ rest) × (is_whitespace setting.table c ≡ true)
unfolding reads
form_spaced setting text x start «end» next e lt =
    let s = stood setting (length text + 1) 0 text x start «end» next e in
    let p : Parted 0 s.here s.size s.rest = subst (λ (r : Read Found). Parts 0 s.here r) s.found (parts setting.table setting.limits (attempt setting setting.limits.nesting) 0 s.here) in
    let b = blank_rest setting.table s.is_token s.rest (omega (arith, lt, s.end_is, s.next_is)) in
    let whole : text ≡ (s.front ++ p.taken) ++ s.rest = s.split ∙ ap (λ (ds : List ℕ). s.front ++ ds) p.split ∙ sym (append_assoc s.front p.taken s.rest) in
    let end_is : «end» ≡ length (s.front ++ p.taken) = omega (arith, s.end_is, s.start_is, p.offset, length-append s.front p.taken) in
    (b.0, b.1, (λ i. drop (end_is i) (whole i)) ∙ drop_front (s.front ++ p.taken) s.rest ∙ b.2, b.3)
