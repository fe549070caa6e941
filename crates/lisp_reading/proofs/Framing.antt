-- What a plan gives on a text it gives on the bytes that it took, alone.
use Rattle.std.proofs.Common.{◌≡◌, ℕ, zero, suc, ◌+◌, Bool, true, false, List, [], ◌∷◌, ◌++◌, length, take, Result, Ok, Err, IsTrue, IfOk, refl, sym, ap, subst, ◌∙◌, arith}
use Rattle.std.specs.Prelude.{nat_le}
use Rattle.readtable_core.specs.Tables.{Table}
use Rattle.token_scan.specs.declared.mark.Mark.{Mark}
use Rattle.token_scan.specs.Tokens.{ScanFault, ScannedBytes, typed_text, token_in, escaped_token_in}
use Rattle.token_scan.specs.Spelling.{IsSpelledAt, may_end}
use Rattle.token_scan.proofs.Standing.{token_stands, escaped_token_stands}
use Rattle.lisp_object.specs.declared.refusal.TheConstants.{FORM_TOO_LONG}
use Rattle.token_meaning.specs.Results.{scan_refusal_number}
use Rattle.lisp_reading.specs.Plans.{Plan, gives, refuses, takes, scans, Read, within, stands_below, limited_token, token_at_front, run}
use Rattle.lisp_reading.specs.declared.limits.Limits.{Limits}

-- `front k` is what is read of the first k bytes. Those that were taken are enough, and more of them are left alone.
abbrev pub Framed : {A E : Type 0} → (ℕ → Result (A × ℕ × List ℕ) E) → ℕ → Result (A × ℕ × List ℕ) E → Type 0
Framed front at (Ok (x, next, ds)) = (count : ℕ) × (at + count ≡ next) × ((m : ℕ) → front (count + m) ≡ Ok (x, next, take m ds))
Framed front at (Err e) = Unit {0}

framed_same : {A : Type 0} (front again : ℕ → Read A) (at : ℕ) (r s : Read A) → ((k : ℕ) → front k ≡ again k) → r ≡ s → Framed again at s → Framed front at r
framed_same {A = A} front again at r s fronts rs h =
    let step : (q : Read A) → Framed again at q → Framed front at q =
    λ q. elim q as (λ q'. Framed again at q' → Framed front at q') [
      | Ok p ↦ λ g. (g.0, g.1, λ m. fronts (g.0 + m) ∙ g.2 m)
      | Err e ↦ λ g. tt
    ] in
    subst (λ (q : Read A). Framed front at q) (sym rs) (step s h)

-- count bytes are taken first
framed_then : {A : Type 0} (front again : ℕ → Read A) (at next count : ℕ) (r : Read A) → at + count ≡ next → ((m : ℕ) → front (count + m) ≡ again m) → Framed again next r → Framed front at r
framed_then front again at next count (Ok (x, last, ds)) here fronts h =
    (count + h.0, omega (arith, h.1), λ m. let e : (count + h.0) + m ≡ count + (h.0 + m) = omega arith in ap front e ∙ fronts (h.0 + m) ∙ h.2 m)
framed_then front again at next count (Err e) here fronts h = tt

-- a byte is taken first
framed_taken : {A : Type 0} (front again : ℕ → Read A) (at : ℕ) (r : Read A) → ((k : ℕ) → front (suc k) ≡ again k) → Framed again (at + 1) r → Framed front at r
framed_taken front again at r fronts h =
    framed_then front again at (at + 1) 1 r refl (λ m. let e : 1 + m ≡ suc m = omega arith in ap front e ∙ fronts m) h

framed_within : {A : Type 0} (full : Bool) (front : ℕ → Read A) (at there : ℕ) (r : Read A) → Framed front at r → Framed (λ k. within full there (front k)) at (within full there r)
framed_within true front at there r h = tt
framed_within false front at there r h = h

take_nothing : (k : ℕ) → take {A = ℕ} k [] ≡ []
take_nothing zero = refl
take_nothing (suc k) = refl

-- ---- tokens

may_end_take : (table : Table) (ds : List ℕ) (m : ℕ) → IsTrue (may_end (typed_text table ds)) → IsTrue (may_end (typed_text table (take m ds)))
may_end_take table ds zero h = refl
may_end_take table [] (suc m) h = refl
may_end_take table (c ∷ cs) (suc m) h = h

take_after : (front after : List ℕ) (m : ℕ) → take (length front + m) (front ++ after) ≡ front ++ take m after
take_after [] after m = let e : 0 + m ≡ m = omega arith in ap (λ n. take n after) e
take_after (c ∷ cs) after m =
    let e : suc (length cs) + m ≡ suc (length cs + m) = omega arith in
    ap (λ n. take n (c ∷ cs ++ after)) e ∙ ap (λ (ds : List ℕ). c ∷ ds) (take_after cs after m)

token_at : (table : Table) (scan : List ℕ → ScannedBytes) (at : ℕ) (text : List ℕ) (r : ScannedBytes)
    → IfOk r (λ t. IsSpelledAt table scan at text t.0 t.1 t.2) → Framed (λ k. scan (take k text)) at r
token_at table scan at text (Ok (marks, next, rest)) st = (
  length st.taken,
  sym st.offset,
  λ m.
      ap (λ (ds : List ℕ). scan (take (length st.taken + m) ds)) st.split
      ∙ ap scan (take_after st.taken rest m)
      ∙ st.again (take m rest) (may_end_take table rest m st.ends),
)
token_at table scan at text (Err e) st = tt

token_framed : (escaped : Bool) (table : Table) (limit at : ℕ) (text : List ℕ)
    → Framed (λ k. token_at_front escaped table limit at (take k text)) at (token_at_front escaped table limit at text)
token_framed false table limit at text =
    token_at table (token_in table limit at) at text (token_in table limit at text) (token_stands table limit at text)
token_framed true table limit at text =
    token_at table (escaped_token_in table limit at) at text (escaped_token_in table limit at text) (escaped_token_stands table limit at text)

cut_framed : {A E : Type 0} (b : Bool) (front : ℕ → Result (A × ℕ × List ℕ) E) (at count next : ℕ) (x : A) (ds : List ℕ) (f : E) → at + count ≡ next
    → ((m : ℕ) → front (count + m) ≡ elim b [ true ↦ Ok (x, next, take m ds) | false ↦ Err f ])
    → Framed front at (elim b [ true ↦ Ok (x, next, ds) | false ↦ Err f ])
cut_framed true front at count next x ds f here fronts = (count, here, fronts)
cut_framed false front at count next x ds f here fronts = tt

limited_framed : (limit : ℕ) (front : ℕ → Result (List Mark × ℕ × List ℕ) ScanFault) (at : ℕ) (r : Result (List Mark × ℕ × List ℕ) ScanFault)
    → Framed front at r → Framed (λ k. limited_token limit (front k) (λ p. p.1)) at (limited_token limit r (λ p. p.1))
limited_framed limit front at (Ok (marks, next, ds)) h =
    cut_framed (nat_le next limit) (λ k. limited_token limit (front k) (λ p. p.1)) at h.0 next marks ds _ h.1
    (λ m. ap (λ (r : Result (List Mark × ℕ × List ℕ) ScanFault). limited_token limit r (λ p. p.1)) (h.2 m))
limited_framed limit front at (Err e) h =
    elim (stands_below limit e.refusal e.at) as (λ b. Framed (λ k. limited_token limit (front k) (λ p. p.1)) at (elim b [
      | true ↦ Err (record { number = scan_refusal_number e.refusal; at = e.at })
      | false ↦ Err (record { number = FORM_TOO_LONG; at = limit })
    ])) [ true ↦ tt | false ↦ tt ]

-- ---- plans

goes_on_framed : {A : Type 0} (table : Table) (limits : Limits) (on : List Mark → Plan A) (front : ℕ → Read (List Mark)) (at : ℕ) (r : Read (List Mark))
    → ((marks : List Mark) (next : ℕ) (ds : List ℕ) → Framed (λ k. run table limits (on marks) next (take k ds)) next (run table limits (on marks) next ds))
    → Framed front at r
    → Framed (λ k. elim (front k) [ Ok p ↦ run table limits (on p.0) p.1 p.2 | Err e ↦ Err e ]) at (elim r [ Ok p ↦ run table limits (on p.0) p.1 p.2 | Err e ↦ Err e ])
goes_on_framed {A = A} table limits on front at (Ok (marks, next, ds)) all h =
    let step : Read (List Mark) → Read A = λ r. elim r [ Ok p ↦ run table limits (on p.0) p.1 p.2 | Err e ↦ Err e ] in
    framed_then (λ k. step (front k)) (λ m. run table limits (on marks) next (take m ds)) at next h.0 (run table limits (on marks) next ds) h.1
    (λ m. ap step (h.2 m)) (all marks next ds)
goes_on_framed table limits on front at (Err e) all h = tt

-- the byte in front is taken, or not
byte_framed : {A : Type 0} (b full : Bool) (front on other : ℕ → Read A) (at : ℕ) (r s : Read A)
    → front 0 ≡ other 0 → ((k : ℕ) → front (suc k) ≡ elim b [ true ↦ within full at (on k) | false ↦ other (suc k) ])
    → Framed on (at + 1) r → Framed other at s → Framed front at (elim b [ true ↦ within full at r | false ↦ s ])
byte_framed true full front on other at r s none some h g =
    framed_taken front (λ k. within full at (on k)) at (within full at r) some (framed_within full on (at + 1) at r h)
byte_framed false full front on other at r s none some h g =
    framed_same front other at s s (λ k. elim k as (λ k. front k ≡ other k) [ zero ↦ none | suc j ↦ some j ]) refl g

pub framed : {A : Type 0} (table : Table) (limits : Limits) (plan : Plan A) (at : ℕ) (cs : List ℕ)
    → Framed (λ k. run table limits plan at (take k cs)) at (run table limits plan at cs)
unfolding run
framed table limits (gives x) at cs = (0, omega arith, λ m. let e : 0 + m ≡ m = omega arith in ap (λ k. Ok (x, at, take k cs)) e)
framed table limits (refuses code back) at cs = tt
framed table limits (takes other test on) at [] =
    framed_same (λ k. run table limits (takes other test on) at (take k [])) (λ k. run table limits other at (take k [])) at
    (run table limits other at []) (run table limits other at [])
    (λ k. ap (run table limits (takes other test on) at) (take_nothing k) ∙ ap (run table limits other at) (sym (take_nothing k))) refl
    (framed table limits other at [])
framed table limits (takes other test on) at (c ∷ cs) =
    byte_framed (test c) (nat_le limits.text at) (λ k. run table limits (takes other test on) at (take k (c ∷ cs)))
    (λ k. run table limits (on c) (at + 1) (take k cs)) (λ k. run table limits other at (take k (c ∷ cs))) at
    (run table limits (on c) (at + 1) cs) (run table limits other at (c ∷ cs)) refl (λ k. refl)
    (framed table limits (on c) (at + 1) cs) (framed table limits other at (c ∷ cs))
framed table limits (scans escaped limit on) at cs =
    goes_on_framed table limits on (λ k. limited_token limits.text (token_at_front escaped table limit at (take k cs)) (λ p. p.1)) at
    (limited_token limits.text (token_at_front escaped table limit at cs) (λ p. p.1)) (λ marks next ds. framed table limits (on marks) next ds)
    (limited_framed limits.text (λ k. token_at_front escaped table limit at (take k cs)) at (token_at_front escaped table limit at cs) (token_framed escaped table limit at cs))
