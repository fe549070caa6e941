-- A refusal before the end of a text is the same whatever follows, and none is beyond the end.
use Rattle.std.proofs.Common.{◌≡◌, ℕ, suc, ◌+◌, ◌<◌, ◌≤◌, Bool, true, false, List, [], ◌∷◌, ◌++◌, length, Ok, Err, IfOk, refl, ap, ◌∙◌, length-append, arith}
use Rattle.std.specs.Prelude.{nat_le, nat_lt}
use Rattle.std.proofs.lemmas.Bool.{leb-true, leb-false, ltb-true, ltb-false, lt-leb, le-ltb}
use Rattle.lisp_object.specs.declared.refusal.TheConstants.{FORM_TOO_LONG}
use Rattle.readtable_core.specs.Tables.{Table}
use Rattle.token_scan.specs.declared.mark.Mark.{Mark}
use Rattle.token_scan.specs.declared.refusal.ScanRefusal.{ScanRefusal}
use Rattle.token_scan.specs.declared.refusal.ScanRefusal.TheVariants.{EndOfFile, InvalidCharacter, InvalidTrait, TokenTooLong}
use Rattle.token_scan.specs.Marks.{character_count}
use Rattle.token_scan.specs.Tokens.{ScanFault, ScannedBytes}
use Rattle.token_meaning.specs.Results.{scan_refusal_number}
use Rattle.lisp_reading.specs.declared.limits.Limits.{Limits}
use Rattle.lisp_reading.specs.Plans.{Plan, gives, refuses, takes, scans, Read, within, stands_below, limited_token, token_at_front, run}
use Rattle.lisp_reading.proofs.Following.{Follows, token_follows}
use Rattle.lisp_reading.proofs.Keeping.{most_back, Keeps, few}
use Rattle.lisp_reading.proofs.Offsets.{Parts, token_parts}
use Rattle.lisp_reading.proofs.TokenFaults.{IsFrom, IsLonger, token_longer, token_from_here}

-- A refusal is at most so far before this offset, and at the end at most; before the end it is that of each longer text.
abbrev pub Decided : {A : Type 0} → ℕ → ℕ → ℕ → (List ℕ → Read A) → Read A → Type 0
Decided back at «end» longer (Ok t) = Unit {0}
Decided back at «end» longer (Err e) = (at ≤ e.at + back) × (e.at ≤ «end») × (e.at < «end» → (more : List ℕ) → longer more ≡ Err e)

-- the end of the text was reached before the plan that is refused
at_end : {A : Type 0} (most at to «end» : ℕ) (longer again : List ℕ → Read A) (r : Read A) → at ≤ to → «end» ≡ to → Decided 0 to (to + 0) again r → Decided most at «end» longer r
at_end most at to «end» longer again (Ok t) le e h = tt
at_end most at to «end» longer again (Err f) le e h = (omega (arith, h.0, le), omega (arith, h.1, e), λ lt. absurd (omega (arith, lt, h.0, e)))

-- the same offset, where as much of the text is left
goes_on : {A : Type 0} (back most at to «end» last : ℕ) (longer again : List ℕ → Read A) (r : Read A) → at + back ≤ to + most → last ≡ «end» → ((more : List ℕ) → longer more ≡ again more)
    → Decided back to last again r → Decided most at «end» longer r
goes_on back most at to «end» last longer again (Ok t) le e same h = tt
goes_on back most at to «end» last longer again (Err f) le e same h =
    (omega (arith, h.0, le), omega (arith, h.1, e), λ lt more. same more ∙ h.2 (omega (arith, lt, e)) more)

byte_decided : {A : Type 0} (b full : Bool) (most at left limit : ℕ) (on other : List ℕ → Read A) (r s : Read A) → nat_le limit at ≡ full
    → (at < limit → Decided 1 (at + 1) (at + 1 + left) on r) → Decided 0 at (at + suc left) other s
    → Decided most at (at + suc left) (λ more. elim b [ true ↦ within full at (on more) | false ↦ other more ]) (elim b [ true ↦ within full at r | false ↦ s ])
byte_decided true true most at left limit on other r s e p q = (omega arith, omega arith, λ lt more. refl)
byte_decided true false most at left limit on other r s e p q =
    goes_on 1 most at (at + 1) (at + suc left) (at + 1 + left) on on r (omega arith) (omega arith) (λ more. refl) (p (leb-false limit at e))
byte_decided false full most at left limit on other r s e p q = goes_on 0 most at at (at + suc left) (at + suc left) other other s (omega arith) refl (λ more. refl) q

-- ---- tokens

above : (limit : ℕ) (refusal : ScanRefusal) (at : ℕ) → stands_below limit refusal at ≡ false → limit ≤ at
above limit EndOfFile at e = omega (arith, leb-false at limit e)
above limit InvalidCharacter at e = ltb-false at limit e
above limit InvalidTrait at e = ltb-false at limit e
above limit TokenTooLong at e = ltb-false at limit e

beyond : (limit : ℕ) (refusal : ScanRefusal) (at : ℕ) → limit < at → stands_below limit refusal at ≡ false
beyond limit EndOfFile at h = lt-leb at limit h
beyond limit InvalidCharacter at h = le-ltb at limit (omega arith)
beyond limit InvalidTrait at h = le-ltb at limit (omega arith)
beyond limit TokenTooLong at h = le-ltb at limit (omega arith)

module _ {A : Type 0} (table : Table) (limits : Limits) (on : List Mark → Plan A) where
  abbrev step : Read (List Mark) → Read A
  step q = elim q [ Ok p ↦ run table limits (on p.0) p.1 p.2 | Err e ↦ Err e ]

  abbrev cut : ScannedBytes → Read A
  cut r = step (limited_token limits.text r (λ p. p.1))

  abbrev too_long : Read A
  too_long = Err (record { number = FORM_TOO_LONG; at = limits.text })

  abbrev cut_end : Bool → List Mark → ℕ → List ℕ → Read A
  cut_end b marks next cs = step (elim b [ true ↦ Ok (marks, next, cs) | false ↦ Err (record { number = FORM_TOO_LONG; at = limits.text }) ])

  abbrev cut_fault : Bool → ScanFault → Read A
  cut_fault b f = step (elim b [
    | true ↦ Err (record { number = scan_refusal_number f.refusal; at = f.at })
    | false ↦ Err (record { number = FORM_TOO_LONG; at = limits.text })
  ])

  -- what is beyond the limit is cut there
  cut_over : («end» : ℕ) (r : ScannedBytes) → limits.text < «end» → IsFrom «end» r → cut r ≡ too_long
  cut_over «end» (Ok (marks, next, cs)) lt h = ap (λ b. cut_end b marks next cs) (lt-leb next limits.text (omega (arith, lt, h)))
  cut_over «end» (Err f) lt h = ap (λ b. cut_fault b f) (beyond limits.text f.refusal f.at (omega (arith, lt, h)))

  token_decided : (limit most at : ℕ) (cs : List ℕ) (longer : List ℕ → ScannedBytes) (r : ScannedBytes) → at ≤ limits.text → IfOk r (λ t. character_count t.0 ≤ limit)
      → IsFrom at r → Parts at cs r
      → ((more : List ℕ) → IsLonger (at + length cs) (longer more) r) → ((more : List ℕ) → Follows more (longer more) r)
      → ((marks : List Mark) (next : ℕ) (ds : List ℕ) → next ≤ limits.text → character_count marks ≤ limit
      → Decided 0 next (next + length ds) (λ more. run table limits (on marks) next (ds ++ more)) (run table limits (on marks) next ds))
      → Decided most at (at + length cs) (λ more. cut (longer more)) (cut r)
  token_decided limit most at cs longer (Ok (marks, next, [])) le small here p beyond_end follows all =
      let total : at + length cs ≡ next = omega (arith, p.offset, ap length p.split, length-append p.taken []) in
      let by : (b : Bool) → nat_le next limits.text ≡ b → Decided most at (at + length cs) (λ more. cut (longer more)) (cut_end b marks next []) =
      λ b. elim b as (λ b. nat_le next limits.text ≡ b → Decided most at (at + length cs) (λ more. cut (longer more)) (cut_end b marks next [])) [
        | true ↦ λ e. at_end most at next (at + length cs) (λ more. cut (longer more)) (λ more. run table limits (on marks) next more) (run table limits (on marks) next [])
            here total (all marks next [] (leb-true next limits.text e) small)
        | false ↦ λ e.
            let over : limits.text < next = leb-false next limits.text e in
            (omega (arith, le), omega (arith, over, total), λ lt more. cut_over (at + length cs) (longer more) lt (beyond_end more))
      ] in
      by (nat_le next limits.text) refl
  token_decided limit most at cs longer (Ok (marks, next, d ∷ ds)) le small here p beyond_end follows all =
      let total : next + length (d ∷ ds) ≡ at + length cs = omega (arith, p.offset, ap length p.split, length-append p.taken (d ∷ ds)) in
      let by : (b : Bool) → nat_le next limits.text ≡ b → Decided most at (at + length cs) (λ more. cut (longer more)) (cut_end b marks next (d ∷ ds)) =
      λ b. elim b as (λ b. nat_le next limits.text ≡ b → Decided most at (at + length cs) (λ more. cut (longer more)) (cut_end b marks next (d ∷ ds))) [
        | true ↦ λ e. goes_on 0 most at next (at + length cs) (next + length (d ∷ ds)) (λ more. cut (longer more)) (λ more. run table limits (on marks) next (d ∷ ds ++ more))
            (run table limits (on marks) next (d ∷ ds)) (omega (arith, here)) total (λ more. ap cut (follows more) ∙ ap (λ b. cut_end b marks next (d ∷ ds ++ more)) e)
            (all marks next (d ∷ ds) (leb-true next limits.text e) small)
        | false ↦ λ e.
            let over : limits.text < next = leb-false next limits.text e in
            (omega (arith, le), omega (arith, over, total), λ lt more. ap cut (follows more) ∙ ap (λ b. cut_end b marks next (d ∷ ds ++ more)) e)
      ] in
      by (nat_le next limits.text) refl
  token_decided limit most at cs longer (Err f) le small here p beyond_end follows all =
      let by : (b : Bool) → stands_below limits.text f.refusal f.at ≡ b → Decided most at (at + length cs) (λ more. cut (longer more)) (cut_fault b f) =
      λ b. elim b as (λ b. stands_below limits.text f.refusal f.at ≡ b → Decided most at (at + length cs) (λ more. cut (longer more)) (cut_fault b f)) [
        | true ↦ λ e. (omega (arith, here), (beyond_end []).0, λ lt more. ap cut ((beyond_end more).1 lt) ∙ ap (λ b. cut_fault b f) e)
        | false ↦ λ e.
            let over : limits.text ≤ f.at = above limits.text f.refusal f.at e in (
              omega (arith, le),
              omega (arith, over, (beyond_end []).0),
              λ lt more. fault_over more lt (nat_lt f.at (at + length cs)) refl e,
            )
      ] in
      by (stands_below limits.text f.refusal f.at) refl
    where
      fault_over : (more : List ℕ) → limits.text < at + length cs → (b : Bool) → nat_lt f.at (at + length cs) ≡ b → stands_below limits.text f.refusal f.at ≡ false
          → cut (longer more) ≡ too_long
      fault_over more lt true is e = ap cut ((beyond_end more).1 (ltb-true f.at (at + length cs) is)) ∙ ap (λ b. cut_fault b f) e
      fault_over more lt false is e = cut_over (at + length cs) (longer more) lt ((beyond_end more).2 (ltb-false f.at (at + length cs) is))

-- ---- plans

pub decided : {A : Type 0} (P : Bool → A → Type 0) (table : Table) (limits : Limits) (plan : Plan A) (taken : Bool) (at : ℕ) (cs : List ℕ) → at ≤ limits.text → Keeps P taken plan
    → Decided (most_back taken) at (at + length cs) (λ more. run table limits plan at (cs ++ more)) (run table limits plan at cs)
unfolding run
decided P table limits (gives x) taken at cs le h = tt
decided P table limits (refuses code back) taken at cs le h = (omega (arith, h), omega arith, λ lt more. refl)
decided P table limits (takes other test on) taken at [] le h =
    at_end (most_back taken) at at (at + 0) (λ more. run table limits (takes other test on) at more) (λ more. run table limits other at more) (run table limits other at [])
    (omega arith) (omega arith) (decided P table limits other false at [] le h.0)
decided P table limits (takes other test on) taken at (c ∷ cs) le h =
    byte_decided (test c) (nat_le limits.text at) (most_back taken) at (length cs) limits.text
    (λ more. run table limits (on c) (at + 1) (cs ++ more)) (λ more. run table limits other at (c ∷ cs ++ more)) (run table limits (on c) (at + 1) cs) (run table limits other at (c ∷ cs)) refl
    (λ lt. decided P table limits (on c) true (at + 1) cs (omega (arith, lt)) (h.1 c)) (decided P table limits other false at (c ∷ cs) le h.0)
decided P table limits (scans escaped limit on) taken at cs le h =
    token_decided table limits on limit (most_back taken) at cs (λ more. token_at_front escaped table limit at (cs ++ more)) (token_at_front escaped table limit at cs) le (few escaped table limit at cs)
    (token_from_here escaped table limit at cs) (token_parts escaped table limit at cs) (λ more. token_longer escaped table limit at cs more)
    (λ more. token_follows escaped table limit at cs more) (λ marks next ds there small. decided P table limits (on marks) false next ds there (h marks small))
