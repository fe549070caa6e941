-- One plan after another, on a text; and that the number of turns is always enough.
use Rattle.std.proofs.Common.{◌≡◌, ℕ, zero, suc, ◌+◌, ◌<◌, ◌≤◌, Bool, true, false, List, [], ◌∷◌, take, Result, Ok, Err, refl, subst, arith}
use Rattle.std.specs.Prelude.{nat_le}
use Rattle.std.proofs.lemmas.Bool.{leb-true, leb-false}
use Rattle.lisp_object.specs.declared.refusal.TheConstants.{FORM_TOO_LONG}
use Rattle.readtable_core.specs.Tables.{Table}
use Rattle.token_scan.specs.declared.mark.Mark.{Mark}
use Rattle.token_meaning.specs.Results.{scan_refusal_number}
use Rattle.token_scan.specs.Tokens.{ScanFault}
use Rattle.lisp_reading.specs.Plans.{Plan, gives, refuses, takes, scans, then_plan, Read, within, stands_below, limited_token, token_at_front, run}
use Rattle.lisp_reading.specs.declared.limits.Limits.{Limits}
use Rattle.lisp_reading.proofs.Framing.{Framed, framed}

-- ---- one plan after another

-- what the next plan gives, after what was given
abbrev pub and_then : {A B : Type 0} → Table → Limits → (A → Plan B) → Read A → Read B
and_then table limits next (Ok p) = run table limits (next p.0) p.1 p.2
and_then table limits next (Err e) = Err e

byte_then : {A B : Type 0} (table : Table) (limits : Limits) (next : A → Plan B) (b full : Bool) (at : ℕ) (r s : Read A) (r2 s2 : Read B)
    → r2 ≡ and_then table limits next r → s2 ≡ and_then table limits next s
    → elim b [ true ↦ within full at r2 | false ↦ s2 ] ≡ and_then table limits next (elim b [ true ↦ within full at r | false ↦ s ])
byte_then table limits next true true at r s r2 s2 p q = refl
byte_then table limits next true false at r s r2 s2 p q = p
byte_then table limits next false full at r s r2 s2 p q = q

token_then : {A B : Type 0} (table : Table) (limits : Limits) (next : A → Plan B) (on : List Mark → Plan A) (on2 : List Mark → Plan B) (r : Read (List Mark))
    → ((marks : List Mark) (at : ℕ) (cs : List ℕ) → run table limits (on2 marks) at cs ≡ and_then table limits next (run table limits (on marks) at cs))
    → elim r [ Ok p ↦ run table limits (on2 p.0) p.1 p.2 | Err e ↦ Err e ]
    ≡ and_then table limits next (elim r [ Ok p ↦ run table limits (on p.0) p.1 p.2 | Err e ↦ Err e ])
token_then table limits next on on2 (Ok (marks, at, cs)) all = all marks at cs
token_then table limits next on on2 (Err e) all = refl

pub run_then : {A B : Type 0} (table : Table) (limits : Limits) (plan : Plan A) (next : A → Plan B) (at : ℕ) (cs : List ℕ)
    → run table limits (then_plan plan next) at cs ≡ and_then table limits next (run table limits plan at cs)
unfolding run then_plan
run_then table limits (gives x) next at cs = refl
run_then table limits (refuses code back) next at cs = refl
run_then table limits (takes other test on) next at [] = run_then table limits other next at []
run_then table limits (takes other test on) next at (c ∷ cs) =
    byte_then table limits next (test c) (nat_le limits.text at) at (run table limits (on c) (at + 1) cs) (run table limits other at (c ∷ cs))
    (run table limits (then_plan (on c) next) (at + 1) cs) (run table limits (then_plan other next) at (c ∷ cs))
    (run_then table limits (on c) next (at + 1) cs) (run_then table limits other next at (c ∷ cs))
run_then table limits (scans escaped limit on) next at cs =
    token_then table limits next on (λ marks. then_plan (on marks) next) (limited_token limits.text (token_at_front escaped table limit at cs) (λ p. p.1))
    (λ marks next_at ds. run_then table limits (on marks) next next_at ds)

-- ---- what was taken is below the limit

abbrev pub IsBelow : {A : Type 0} → ℕ → Read A → Type 0
IsBelow limit (Ok (x, next, ds)) = next ≤ limit
IsBelow limit (Err e) = Unit {0}

byte_below : {A : Type 0} (limit : ℕ) (b full : Bool) (at : ℕ) (r s : Read A) → nat_le limit at ≡ full → (at < limit → IsBelow limit r) → IsBelow limit s
    → IsBelow limit (elim b [ true ↦ within full at r | false ↦ s ])
byte_below limit true true at r s e p q = tt
byte_below limit true false at r s e p q = p (leb-false limit at e)
byte_below limit false full at r s e p q = q

token_below : {A : Type 0} (table : Table) (limits : Limits) (on : List Mark → Plan A) (r : Result (List Mark × ℕ × List ℕ) ScanFault) (at : ℕ)
    → ((marks : List Mark) (next : ℕ) (cs : List ℕ) → next ≤ limits.text → IsBelow limits.text (run table limits (on marks) next cs))
    → IsBelow limits.text (elim (limited_token limits.text r (λ p. p.1)) [ Ok p ↦ run table limits (on p.0) p.1 p.2 | Err e ↦ Err e ])
token_below {A = A} table limits on (Ok (marks, next, ds)) at all =
    let step : Read (List Mark) → Read A = λ r. elim r [ Ok p ↦ run table limits (on p.0) p.1 p.2 | Err e ↦ Err e ] in
    let cut : Bool → Read (List Mark) = λ b. elim b [ true ↦ Ok (marks, next, ds) | false ↦ Err (record { number = FORM_TOO_LONG; at = limits.text }) ] in
    let by : (b : Bool) → nat_le next limits.text ≡ b → IsBelow limits.text (step (cut b)) =
    λ b. elim b as (λ b. nat_le next limits.text ≡ b → IsBelow limits.text (step (cut b))) [
      | true ↦ λ e. all marks next ds (leb-true next limits.text e)
      | false ↦ λ e. tt
    ] in
    by (nat_le next limits.text) refl
token_below {A = A} table limits on (Err f) at all =
    let step : Read (List Mark) → Read A = λ r. elim r [ Ok p ↦ run table limits (on p.0) p.1 p.2 | Err e ↦ Err e ] in
    let cut : Bool → Read (List Mark) = λ b. elim b [
      | true ↦ Err (record { number = scan_refusal_number f.refusal; at = f.at })
      | false ↦ Err (record { number = FORM_TOO_LONG; at = limits.text })
    ] in
    let by : (b : Bool) → IsBelow limits.text (step (cut b)) = λ b. elim b as (λ b. IsBelow limits.text (step (cut b))) [ true ↦ tt | false ↦ tt ] in
    by (stands_below limits.text f.refusal f.at)

pub below : {A : Type 0} (table : Table) (limits : Limits) (plan : Plan A) (at : ℕ) (cs : List ℕ) → at ≤ limits.text → IsBelow limits.text (run table limits plan at cs)
unfolding run
below table limits (gives x) at cs h = h
below table limits (refuses code back) at cs h = tt
below table limits (takes other test on) at [] h = below table limits other at [] h
below table limits (takes other test on) at (c ∷ cs) h =
    byte_below limits.text (test c) (nat_le limits.text at) at (run table limits (on c) (at + 1) cs) (run table limits other at (c ∷ cs)) refl
    (λ lt. below table limits (on c) (at + 1) cs (omega arith)) (below table limits other at (c ∷ cs) h)
below table limits (scans escaped limit on) at cs h =
    token_below table limits on (token_at_front escaped table limit at cs) at (λ marks next ds le. below table limits (on marks) next ds le)

-- ---- a plan that gives no such value on the empty text takes a byte before it gives it

takes_by : {A : Type 0} (front : ℕ → Read A) (at next : ℕ) (x : A) (ds : List ℕ) → (front 0 ≡ Ok (x, next, []) → ⊥) → Framed front at (Ok (x, next, ds)) → at < next
takes_by front at next x ds never (zero, here, fronts) = absurd (never (fronts 0))
takes_by front at next x ds never (suc n, here, fronts) = omega (arith, here)

pub eats : {A : Type 0} (table : Table) (limits : Limits) (plan : Plan A) (at next : ℕ) (cs ds : List ℕ) (x : A)
    → (run table limits plan at [] ≡ Ok (x, next, []) → ⊥) → run table limits plan at cs ≡ Ok (x, next, ds) → at < next
eats {A = A} table limits plan at next cs ds x never e =
    takes_by (λ k. run table limits plan at (take k cs)) at next x ds never
    (subst (λ (r : Read A). Framed (λ k. run table limits plan at (take k cs)) at r) e (framed table limits plan at cs))
