-- A plan takes the front of a text and leaves the rest.
use Rattle.std.proofs.Common.{◌≡◌, ℕ, ◌+◌, Bool, true, false, List, [], ◌∷◌, ◌++◌, length, Result, Ok, Err, IfOk, refl, sym, ap, ◌∙◌, append_assoc, length-append, arith}
use Rattle.std.specs.Prelude.{nat_le}
use Rattle.lisp_object.specs.declared.refusal.TheConstants.{FORM_TOO_LONG}
use Rattle.readtable_core.specs.Tables.{Table}
use Rattle.token_scan.specs.declared.mark.Mark.{Mark}
use Rattle.token_meaning.specs.Results.{scan_refusal_number}
use Rattle.token_scan.specs.Tokens.{ScanFault, ScannedBytes, token_in, escaped_token_in}
use Rattle.token_scan.specs.Spelling.{IsSpelledAt}
use Rattle.token_scan.proofs.Standing.{token_stands, escaped_token_stands}
use Rattle.lisp_reading.specs.Plans.{Plan, gives, refuses, takes, scans, Fault, Read, within, stands_below, limited_token, token_at_front, run}
use Rattle.lisp_reading.specs.declared.limits.Limits.{Limits}

pub record Parted (at : ℕ) (whole : List ℕ) (next : ℕ) (rest : List ℕ) : Type 0 where
  pub taken : List ℕ
  pub split : whole ≡ taken ++ rest
  pub offset : next ≡ at + length taken

abbrev pub Parts : {A E : Type 0} → ℕ → List ℕ → Result (A × ℕ × List ℕ) E → Type 0
Parts at whole (Ok (x, next, rest)) = Parted at whole next rest
Parts at whole (Err e) = Unit {0}

-- what was taken first, and then the rest of it
parts_behind : {A E : Type 0} (at next : ℕ) (whole middle : List ℕ) (r : Result (A × ℕ × List ℕ) E) → Parted at whole next middle → Parts next middle r → Parts at whole r
parts_behind at next whole middle (Ok (x, last, rest)) p q = record {
  taken = p.taken ++ q.taken;
  split = p.split ∙ ap (λ (ds : List ℕ). p.taken ++ ds) q.split ∙ sym (append_assoc p.taken q.taken rest);
  offset = omega (arith, p.offset, q.offset, length-append p.taken q.taken);
}
parts_behind at next whole middle (Err e) p q = tt

parts_within : {A : Type 0} (full : Bool) (at there : ℕ) (whole : List ℕ) (r : Read A) → Parts at whole r → Parts at whole (within full there r)
parts_within true at there whole r h = tt
parts_within false at there whole r h = h

byte_parts : {A : Type 0} (b full : Bool) (at c : ℕ) (cs : List ℕ) (r s : Read A) → Parts (at + 1) cs r → Parts at (c ∷ cs) s
    → Parts at (c ∷ cs) (elim b [ true ↦ within full at r | false ↦ s ])
byte_parts true full at c cs r s h g =
    parts_within full at at (c ∷ cs) r (parts_behind at (at + 1) (c ∷ cs) cs r (record { taken = c ∷ []; split = refl; offset = refl }) h)
byte_parts false full at c cs r s h g = g

token_at : (table : Table) (scan : List ℕ → ScannedBytes) (at : ℕ) (text : List ℕ) (r : ScannedBytes)
    → IfOk r (λ t. IsSpelledAt table scan at text t.0 t.1 t.2) → Parts at text r
token_at table scan at text (Ok (marks, next, rest)) st = record { taken = st.taken; split = st.split; offset = st.offset }
token_at table scan at text (Err e) st = tt

pub token_parts : (escaped : Bool) (table : Table) (limit at : ℕ) (text : List ℕ) → Parts at text (token_at_front escaped table limit at text)
token_parts false table limit at text = token_at table (token_in table limit at) at text (token_in table limit at text) (token_stands table limit at text)
token_parts true table limit at text =
    token_at table (escaped_token_in table limit at) at text (escaped_token_in table limit at text) (escaped_token_stands table limit at text)

cut_parts : {A E : Type 0} (b : Bool) (at next : ℕ) (whole rest : List ℕ) (x : A) (f : E) → Parted at whole next rest → Parts at whole (elim b [ true ↦ Ok (x, next, rest) | false ↦ Err f ])
cut_parts true at next whole rest x f h = h
cut_parts false at next whole rest x f h = tt

limited_parts : (limit at : ℕ) (whole : List ℕ) (r : Result (List Mark × ℕ × List ℕ) ScanFault) → Parts at whole r → Parts at whole (limited_token limit r (λ p. p.1))
limited_parts limit at whole (Ok (marks, next, ds)) h = cut_parts (nat_le next limit) at next whole ds marks _ h
limited_parts limit at whole (Err e) h =
    elim (stands_below limit e.refusal e.at) as (λ b. Parts {A = List Mark} {E = Fault} at whole (elim b [
      | true ↦ Err (record { number = scan_refusal_number e.refusal; at = e.at })
      | false ↦ Err (record { number = FORM_TOO_LONG; at = limit })
    ])) [ true ↦ tt | false ↦ tt ]

goes_on_parts : {A : Type 0} (table : Table) (limits : Limits) (on : List Mark → Plan A) (at : ℕ) (whole : List ℕ) (r : Read (List Mark))
    → ((marks : List Mark) (next : ℕ) (ds : List ℕ) → Parts next ds (run table limits (on marks) next ds)) → Parts at whole r
    → Parts at whole (elim r [ Ok p ↦ run table limits (on p.0) p.1 p.2 | Err e ↦ Err e ])
goes_on_parts table limits on at whole (Ok (marks, next, ds)) all h = parts_behind at next whole ds (run table limits (on marks) next ds) h (all marks next ds)
goes_on_parts table limits on at whole (Err e) all h = tt

pub parts : {A : Type 0} (table : Table) (limits : Limits) (plan : Plan A) (at : ℕ) (cs : List ℕ) → Parts at cs (run table limits plan at cs)
unfolding run
parts table limits (gives x) at cs = record { taken = []; split = refl; offset = omega arith }
parts table limits (refuses code back) at cs = tt
parts table limits (takes other test on) at [] = parts table limits other at []
parts table limits (takes other test on) at (c ∷ cs) =
    byte_parts (test c) (nat_le limits.text at) at c cs (run table limits (on c) (at + 1) cs) (run table limits other at (c ∷ cs))
    (parts table limits (on c) (at + 1) cs) (parts table limits other at (c ∷ cs))
parts table limits (scans escaped limit on) at cs =
    goes_on_parts table limits on at cs (limited_token limits.text (token_at_front escaped table limit at cs) (λ p. p.1)) (λ marks next ds. parts table limits (on marks) next ds)
    (limited_parts limits.text at cs (token_at_front escaped table limit at cs) (token_parts escaped table limit at cs))
