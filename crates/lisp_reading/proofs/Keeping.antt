-- What holds of all that a plan gives, and how far before an offset it is refused.
use Rattle.std.proofs.Common.{◌≡◌, ℕ, zero, suc, ◌+◌, ◌<◌, ◌≤◌, Bool, true, false, List, [], ◌∷◌, Ok, Err, IfOk, refl, arith}
use Rattle.std.specs.Prelude.{nat_lt, nat_le}
use Rattle.std.proofs.lemmas.Bool.{ltb-true}
use Rattle.lisp_object.specs.declared.refusal.TheConstants.{INVALID_CHARACTER, FORM_TOO_LONG}
use Rattle.readtable_core.specs.Tables.{Table}
use Rattle.token_scan.specs.declared.mark.Mark.{Mark}
use Rattle.token_scan.specs.Marks.{character_count}
use Rattle.token_scan.specs.Spelling.{Spells, SpellsEscaped}
use Rattle.token_scan.specs.Tokens.{TypedByte, Scanned, ScannedBytes, in_bytes, typed_text}
use Rattle.token_scan.proofs.Split.{SplitsBy, splits, escaped_token_splits}
use Rattle.token_meaning.specs.Results.{scan_refusal_number}
use Rattle.lisp_reading.specs.declared.limits.Limits.{Limits}
use Rattle.lisp_reading.specs.Plans.{Plan, gives, refuses, takes, scans, then_plan, character, next_byte, loop_in, Read, within, stands_below, limited_token, token_at_front, run}

-- how far before an offset a refusal may be: at the byte that was just taken
abbrev pub most_back : Bool → ℕ
most_back true = 1
most_back false = 0

-- P holds of what the plan gives, where the test says whether a byte was just taken. Only at this byte is a refusal before the
-- present offset.
abbrev pub Keeps : {A : Type 0} → (Bool → A → Type 0) → Bool → Plan A → Type 0
Keeps P taken (gives x) = P taken x
Keeps P taken (refuses code back) = back ≤ most_back taken
Keeps P taken (takes other test on) = Keeps P false other × ((c : ℕ) → Keeps P true (on c))
Keeps P taken (scans escaped limit on) = (marks : List Mark) → character_count marks ≤ limit → Keeps P false (on marks)

pub keeps_either : {A : Type 0} (P : Bool → A → Type 0) → ((x : A) → P false x → P true x) → (taken : Bool) (plan : Plan A) → Keeps P false plan → Keeps P taken plan
keeps_either P more false plan h = h
keeps_either P more true (gives x) h = more x h
keeps_either P more true (refuses code back) h = omega arith
keeps_either P more true (takes other test on) h = h
keeps_either P more true (scans escaped limit on) h = h

pub keeps_weaker : {A : Type 0} (P Q : Bool → A → Type 0) → ((taken : Bool) (x : A) → P taken x → Q taken x) → (taken : Bool) (plan : Plan A) → Keeps P taken plan → Keeps Q taken plan
keeps_weaker P Q more taken (gives x) h = more taken x h
keeps_weaker P Q more taken (refuses code back) h = h
keeps_weaker P Q more taken (takes other test on) h = (keeps_weaker P Q more false other h.0, λ c. keeps_weaker P Q more true (on c) (h.1 c))
keeps_weaker P Q more taken (scans escaped limit on) h = λ marks few. keeps_weaker P Q more false (on marks) (h marks few)

pub keeps_then : {A B : Type 0} (P : Bool → A → Type 0) (Q : Bool → B → Type 0) (taken : Bool) (plan : Plan A) (next : A → Plan B) → Keeps P taken plan
    → ((t : Bool) (x : A) → P t x → Keeps Q t (next x)) → Keeps Q taken (then_plan plan next)
unfolding then_plan
keeps_then P Q taken (gives x) next h all = all taken x h
keeps_then P Q taken (refuses code back) next h all = h
keeps_then P Q taken (takes other test on) next h all = (keeps_then P Q false other next h.0 all, λ c. keeps_then P Q true (on c) next (h.1 c) all)
keeps_then P Q taken (scans escaped limit on) next h all = λ marks few. keeps_then P Q false (on marks) next (h marks few) all

-- a loop, of which each turn keeps P where the state is one of these
pub keeps_loop : {S A : Type 0} (P : Bool → A → Type 0) (I : S → Type 0) (turn : (S → Plan A) → S → Plan A)
    → ((more : S → Plan A) → ((s : S) → I s → Keeps P false (more s)) → (s : S) → I s → Keeps P false (turn more s))
    → (n : ℕ) (s : S) → I s → Keeps P false (loop_in turn n s)
unfolding loop_in
keeps_loop P I turn all zero s h = omega arith
keeps_loop P I turn all (suc n) s h = all (λ t. loop_in turn n t) (λ t i. keeps_loop P I turn all n t i) s h

pub keeps_character : {A : Type 0} (P : Bool → A → Type 0) (on : ℕ → Plan A) (c : ℕ) → (c < 128 → Keeps P true (on c)) → Keeps P true (character on c)
keeps_character P on c h =
    elim (nat_lt c 128) as (λ b. nat_lt c 128 ≡ b → Keeps P true (elim b [ true ↦ on c | false ↦ refuses INVALID_CHARACTER 1 ])) [
      | true ↦ λ e. h (ltb-true c 128 e)
      | false ↦ λ e. omega arith
    ] refl

pub keeps_next : {A : Type 0} (P : Bool → A → Type 0) (taken : Bool) (on : ℕ → Plan A) → ((c : ℕ) → c < 128 → Keeps P true (on c)) → Keeps P taken (next_byte on)
keeps_next P taken on all = (omega arith, λ c. keeps_character P on c (all c))

-- ---- on a text

-- a token has at most so many characters
few_by : (spells : List TypedByte → List Mark → Type 0) (limit at : ℕ) (text : List TypedByte) (r : Scanned) → SplitsBy spells limit at text r
    → IfOk (in_bytes r) (λ t. character_count t.0 ≤ limit)
few_by spells limit at text (Ok (marks, next, rest)) s = s.fits
few_by spells limit at text (Err e) s = tt

pub few : (escaped : Bool) (table : Table) (limit at : ℕ) (text : List ℕ) → IfOk (token_at_front escaped table limit at text) (λ t. character_count t.0 ≤ limit)
few false table limit at text = few_by (Spells false) limit at (typed_text table text) _ (splits limit at (typed_text table text))
few true table limit at text = few_by SpellsEscaped limit at (typed_text table text) _ (escaped_token_splits limit at (typed_text table text))

abbrev pub Given : {A : Type 0} → (Bool → A → Type 0) → Read A → Type 0
Given P (Ok t) = P true t.0
Given P (Err e) = Unit {0}

given_byte : {A : Type 0} (P : Bool → A → Type 0) (b full : Bool) (at : ℕ) (r s : Read A) → Given P r → Given P s → Given P (elim b [ true ↦ within full at r | false ↦ s ])
given_byte P true true at r s p q = tt
given_byte P true false at r s p q = p
given_byte P false full at r s p q = q

module _ {A : Type 0} (P : Bool → A → Type 0) (table : Table) (limits : Limits) (on : List Mark → Plan A) where
  abbrev step : Read (List Mark) → Read A
  step r = elim r [ Ok p ↦ run table limits (on p.0) p.1 p.2 | Err e ↦ Err e ]

  given_token : (limit : ℕ) (r : ScannedBytes) → IfOk r (λ t. character_count t.0 ≤ limit)
      → ((marks : List Mark) (next : ℕ) (ds : List ℕ) → character_count marks ≤ limit → Given P (run table limits (on marks) next ds))
      → Given P (step (limited_token limits.text r (λ p. p.1)))
  given_token limit (Ok (marks, next, ds)) small all =
      elim (nat_le next limits.text) as (λ b. Given P (step (elim b [ true ↦ Ok (marks, next, ds) | false ↦ Err (record { number = FORM_TOO_LONG; at = limits.text }) ]))) [
        | true ↦ all marks next ds small
        | false ↦ tt
      ]
  given_token limit (Err e) small all =
      elim (stands_below limits.text e.refusal e.at) as (λ b. Given P (step (elim b [
        | true ↦ Err (record { number = scan_refusal_number e.refusal; at = e.at })
        | false ↦ Err (record { number = FORM_TOO_LONG; at = limits.text })
      ]))) [ true ↦ tt | false ↦ tt ]

pub given_keeps : {A : Type 0} (P : Bool → A → Type 0) → ((x : A) → P false x → P true x) → (table : Table) (limits : Limits) (plan : Plan A) (taken : Bool) (at : ℕ) (cs : List ℕ)
    → Keeps P taken plan → Given P (run table limits plan at cs)
unfolding run
given_keeps P more table limits (gives x) true at cs h = h
given_keeps P more table limits (gives x) false at cs h = more x h
given_keeps P more table limits (refuses code back) taken at cs h = tt
given_keeps P more table limits (takes other test on) taken at [] h = given_keeps P more table limits other false at [] h.0
given_keeps P more table limits (takes other test on) taken at (c ∷ cs) h =
    given_byte P (test c) (nat_le limits.text at) at (run table limits (on c) (at + 1) cs) (run table limits other at (c ∷ cs))
    (given_keeps P more table limits (on c) true (at + 1) cs (h.1 c)) (given_keeps P more table limits other false at (c ∷ cs) h.0)
given_keeps P more table limits (scans escaped limit on) taken at cs h =
    given_token P table limits on limit (token_at_front escaped table limit at cs) (few escaped table limit at cs)
    (λ marks next ds small. given_keeps P more table limits (on marks) false next ds (h marks small))
