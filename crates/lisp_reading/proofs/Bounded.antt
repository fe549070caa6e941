-- What is read ends within the limit of the text.
use Rattle.std.proofs.Common.{◌≡◌, ℕ, ◌+◌, ◌-◌, ◌≤◌, length, Bool, true, false, List, [], ◌∷◌, Result, Ok, Err, refl, subst, arith}
use Rattle.std.specs.Prelude.{nat_le}
use Rattle.std.proofs.lemmas.Bool.{leb-true, leb-false}
use Rattle.token_scan.specs.Tokens.{ScannedBytes}
use Rattle.token_scan.specs.declared.mark.Mark.{Mark}
use Rattle.token_meaning.specs.Results.{scan_refusal_number}
use Rattle.lisp_object.specs.declared.refusal.TheConstants.{FORM_TOO_LONG}
use Rattle.lisp_object.specs.Object.{Object}
use Rattle.readtable_core.specs.Tables.{Table}
use Rattle.lisp_reading.specs.declared.limits.Limits.{Limits}
use Rattle.lisp_reading.specs.Plans.{Plan, Read, Fault, gives, refuses, takes, scans, run, limited_token, token_at_front, stands_below, within}
use Rattle.lisp_reading.specs.Setting.{Setting}
use Rattle.lisp_reading.specs.Reading.{attempt, form, reads}
use Rattle.lisp_reading.proofs.Forms.{stood}

-- the offset after what is given is at most the limit
abbrev pub EndsBelow : {A : Type 0} → ℕ → Result (A × ℕ × List ℕ) Fault → Type 0
EndsBelow limit (Ok (x, at, cs)) = at ≤ limit
EndsBelow limit (Err e) = Unit {0}

no_end : (limit : ℕ) (b : Bool) (e f : Fault) → EndsBelow {A = List Mark} limit (elim b [ true ↦ Err e | false ↦ Err f ])
no_end limit true e f = tt
no_end limit false e f = tt

limited_below : (limit : ℕ) (r : ScannedBytes) → EndsBelow limit (limited_token limit r (λ p. p.1))
limited_below limit (Ok (marks, at, cs)) = go (nat_le at limit) refl where
  go : (b : Bool) → nat_le at limit ≡ b → EndsBelow {A = List Mark} limit (elim b [ true ↦ Ok (marks, at, cs) | false ↦ Err (record { number = FORM_TOO_LONG; at = limit }) ])
  go true e = leb-true at limit e
  go false e = tt
limited_below limit (Err e) =
    no_end limit (stands_below limit e.refusal e.at) (record { number = scan_refusal_number e.refusal; at = e.at }) (record { number = FORM_TOO_LONG; at = limit })

byte_below : {A : Type 0} (limit at : ℕ) (full : Bool) → nat_le limit at ≡ full → (r : Read A) → (at + 1 ≤ limit → EndsBelow limit r) → EndsBelow limit (within full at r)
byte_below limit at true e r more = tt
byte_below limit at false e r more = more (let low = leb-false limit at e in omega arith)

scan_below : {A : Type 0} (table : Table) (limits : Limits) (on : List Mark → Plan A) (r : Result (List Mark × ℕ × List ℕ) Fault) → EndsBelow limits.text r
    → ((marks : List Mark) (next : ℕ) (ds : List ℕ) → next ≤ limits.text → EndsBelow limits.text (run table limits (on marks) next ds))
    → EndsBelow limits.text (elim r [ Ok p ↦ run table limits (on p.0) p.1 p.2 | Err e ↦ Err e ])
scan_below table limits on (Ok (marks, next, ds)) below more = more marks next ds below
scan_below table limits on (Err e) below more = tt

pub bounded : {A : Type 0} (table : Table) (limits : Limits) (plan : Plan A) (at : ℕ) (cs : List ℕ) → at ≤ limits.text → EndsBelow limits.text (run table limits plan at cs)
unfolding run
bounded table limits (gives x) at cs le = le
bounded table limits (refuses code back) at cs le = tt
bounded table limits (takes other test on) at [] le = bounded table limits other at [] le
bounded {A = A} table limits (takes other test on) at (c ∷ cs) le =
    elim (test c) as (λ b. EndsBelow limits.text (elim b [ true ↦ within (nat_le limits.text at) at (run table limits (on c) (at + 1) cs) | false ↦ run table limits other at (c ∷ cs) ])) [
      | true ↦ byte_below limits.text at (nat_le limits.text at) refl (run table limits (on c) (at + 1) cs) (λ below. bounded table limits (on c) (at + 1) cs below)
      | false ↦ bounded table limits other at (c ∷ cs) le
    ]
bounded table limits (scans escaped limit on) at cs le =
    scan_below table limits on (limited_token limits.text (token_at_front escaped table limit at cs) (λ p. p.1)) (limited_below limits.text (token_at_front escaped table limit at cs))
    (λ marks next ds below. bounded table limits (on marks) next ds below)

-- what a form is ends at most as many bytes after its start as the limit of the text says
pub form_below : (setting : Setting) (whole : List ℕ) (x : Object) (start «end» next : ℕ) → reads setting whole ≡ form x start «end» next → «end» - start ≤ setting.limits.text
unfolding reads
form_below setting whole x start «end» next e =
    let s = stood setting (length whole + 1) 0 whole x start «end» next e in
    let below : s.size ≤ setting.limits.text =
    subst (λ r. EndsBelow setting.limits.text r) s.found (bounded setting.table setting.limits (attempt setting setting.limits.nesting) 0 s.here (omega arith)) in
    let end_is = s.end_is in
    omega arith
