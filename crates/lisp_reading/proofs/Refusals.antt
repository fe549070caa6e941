-- A refusal before the end of a text is that of each longer text.
use Rattle.std.proofs.Common.{◌≡◌, ℕ, zero, suc, ◌+◌, ◌<◌, ◌≤◌, false, List, [], ◌∷◌, ◌++◌, length, Ok, Err, sym, ap, ◌∙◌, length-append, arith}
use Rattle.lisp_reading.specs.declared.attempt.Found.{Found}
use Rattle.lisp_reading.specs.declared.attempt.Found.TheVariants.{Nothing as nothing, One as one, LoneDot as lone_dot, TheEnd as the_end}
use Rattle.lisp_reading.specs.Plans.{Read}
use Rattle.lisp_reading.specs.Setting.{Setting}
use Rattle.lisp_reading.specs.Reading.{ReadingResult, empty, refused, next_item, attempt, outcome, reads_in, reads_at, reads}
use Rattle.lisp_reading.proofs.Faults.{Decided, decided}
use Rattle.lisp_reading.proofs.Following.{Follows, follows}
use Rattle.lisp_reading.proofs.Forms.{first, reads_is, the_end_there}
use Rattle.lisp_reading.proofs.Language.{AreKept, FoundAt, outermost_keeps}
use Rattle.lisp_reading.proofs.Offsets.{Parts, parts}

-- nothing is asked of objects
pub any : (setting : Setting) → AreKept setting (λ room x. Unit {0})
any setting = record { tokens = λ room marks x e. tt; values = λ room kind number material x h e. tt; answers = λ room x le known deep. tt }

first_decided : (setting : Setting) (text : List ℕ) → Decided 0 0 (0 + length text) (λ more. first setting (text ++ more)) (first setting text)
first_decided setting text =
    decided (FoundAt (λ room x. Unit {0}) setting.limits.nesting) setting.table setting.limits (attempt setting setting.limits.nesting) false 0 text (omega arith)
    (outermost_keeps setting (λ room x. Unit {0}) (any setting))

no_refusal : (setting : Setting) (n start code offset : ℕ) → reads_in setting n start [] ≡ refused code offset → ⊥
unfolding reads_in
no_refusal setting zero start code offset e = cc
no_refusal setting (suc n) start code offset e =
    let none : empty ≡ refused code offset = sym (ap (outcome setting.table start (λ next cs. reads_in setting n next cs)) (the_end_there setting)) ∙ e in
    cc

module _ (setting : Setting) (code offset : ℕ) where
  -- it is at the end at most, and before it the same whatever follows
  abbrev Stays : ℕ → List ℕ → Type 0
  Stays start whole = (offset ≤ start + length whole) × (offset < start + length whole → (more : List ℕ) → reads_at setting start (whole ++ more) ≡ refused code offset)

  abbrev goes : ℕ → Read Found → ReadingResult
  goes start r = outcome setting.table start (λ next cs. reads_at setting next cs) r

  turn_stays : (again : ℕ → List ℕ → ReadingResult) (start : ℕ) (whole : List ℕ) (r : Read Found) → ((at : ℕ) → again at [] ≡ refused code offset → ⊥)
      → ((at : ℕ) (cs : List ℕ) → again at cs ≡ refused code offset → Stays at cs) → Parts 0 whole r
      → ((more : List ℕ) → Follows more (first setting (whole ++ more)) r) → Decided 0 0 (0 + length whole) (λ more. first setting (whole ++ more)) r
      → outcome setting.table start again r ≡ refused code offset → Stays start whole
  turn_stays again start whole (Ok (nothing token, at, [])) never all p f d e = absurd (never (start + at) e)
  turn_stays again start whole (Ok (nothing token, at, c ∷ cs)) never all p f d e =
      let rest = all (start + at) (c ∷ cs) e in
      let total : length whole ≡ length p.taken + suc (length cs) = ap length p.split ∙ length-append p.taken (c ∷ cs) in (
        omega (arith, rest.0, total, p.offset),
        λ lt more. reads_is setting start (whole ++ more) ∙ ap (goes start) (f more) ∙ rest.1 (omega (arith, lt, total, p.offset)) more,
      )
  turn_stays again start whole (Ok (one token x, at, cs)) never all p f d e = cc
  turn_stays again start whole (Ok (lone_dot, at, [])) never all p f d e =
      let here : start + at ≡ offset = cc in
      let total : length whole ≡ length p.taken + 0 = ap length p.split ∙ length-append p.taken [] in
      (omega (arith, here, total, p.offset), λ lt. absurd (omega (arith, lt, here, total, p.offset)))
  turn_stays again start whole (Ok (lone_dot, at, c ∷ cs)) never all p f d e =
      let here : start + at ≡ offset = cc in
      let total : length whole ≡ length p.taken + suc (length cs) = ap length p.split ∙ length-append p.taken (c ∷ cs) in
      (omega (arith, here, total, p.offset), λ lt more. reads_is setting start (whole ++ more) ∙ ap (goes start) (f more) ∙ e)
  turn_stays again start whole (Ok (the_end, at, cs)) never all p f d e = cc
  turn_stays again start whole (Err f) never all p g d e =
      let here : start + f.at ≡ offset = cc in
      (omega (arith, here, d.1), λ lt more. reads_is setting start (whole ++ more) ∙ ap (goes start) (d.2 (omega (arith, lt, here)) more) ∙ e)

  stays : (n start : ℕ) (whole : List ℕ) → reads_in setting n start whole ≡ refused code offset → Stays start whole
  unfolding reads_in
  stays zero start whole e = cc
  stays (suc n) start whole e =
      turn_stays (λ next cs. reads_in setting n next cs) start whole (first setting whole) (λ at. no_refusal setting n at code offset) (λ at cs f. stays n at cs f)
      (parts setting.table setting.limits (attempt setting setting.limits.nesting) 0 whole) (λ more. follows setting.table setting.limits (attempt setting setting.limits.nesting) 0 whole more)
      (first_decided setting whole) e

pub refusal_stays : (setting : Setting) (text : List ℕ) (code offset : ℕ) → reads setting text ≡ refused code offset
    → (offset ≤ length text) × (offset < length text → (more : List ℕ) → reads setting (text ++ more) ≡ refused code offset)
unfolding reads
refusal_stays setting text code offset e =
    let h = stays setting code offset (length text + 1) 0 text e in
    (omega (arith, h.0), λ lt more. h.1 (omega (arith, lt)) more)
