-- What the same plan, or the same token, gives under larger limits.
--     GivesToo      what the first gives the second gives too
--     scanned_too, token_too      a token within a limit of tokens and one of the text, within larger ones
use Rattle.std.proofs.Common.{◌≡◌, ℕ, ◌+◌, ◌≤◌, Bool, true, false, List, ◌++◌, length, Result, Ok, Err, refl, sym, ap, subst, ◌∙◌, arith}
use Rattle.std.specs.Prelude.{IsTrue, nat_le}
use Rattle.std.proofs.lemmas.Bool.{le-leb, leb-true}
use Rattle.lisp_object.specs.Object.{Object}
use Rattle.lisp_object.specs.declared.refusal.TheConstants.{FORM_TOO_LONG}
use Rattle.readtable_core.specs.Tables.{Table}
use Rattle.token_scan.specs.declared.mark.Mark.{Mark}
use Rattle.token_scan.specs.Marks.{character_count}
use Rattle.token_scan.specs.Spelling.{Spells, SpellsEscaped, may_end}
use Rattle.token_scan.specs.Tokens.{TypedByte, Scanned, ScannedBytes, escaped_token, in_bytes, token, typed_text}
use Rattle.token_scan.proofs.Spelled.{escaped_gives, spelled_gives}
use Rattle.token_scan.proofs.Split.{SplitsBy, escaped_token_splits, splits}
use Rattle.token_meaning.specs.Results.{scan_refusal_number}
use Rattle.lisp_reading.specs.declared.attempt.Found.{Found}
use Rattle.lisp_reading.specs.declared.attempt.Found.TheVariants.{Nothing as nothing, One as one, LoneDot as lone_dot, TheEnd as the_end}
use Rattle.lisp_reading.specs.Plans.{Fault, Read, limited_token, stands_below, within, token_at_front}
use Rattle.lisp_reading.specs.Reading.{ReadingResult, form, outcome}

-- ---- results

-- what the first gives the second gives too; where the first is a fault, nothing is said
abbrev pub GivesToo : {B E : Type 0} → Result B E → Result B E → Type 0
GivesToo (Ok v) r = r ≡ Ok v
GivesToo (Err e) r = Unit {0}

pub gives_along : {B : Type 0} (r s r2 s2 : Result B Fault) → r ≡ s → r2 ≡ s2 → GivesToo s s2 → GivesToo r r2
gives_along {B = B} r s r2 s2 e e2 h =
    subst (λ (q : Result B Fault). GivesToo q r2) (sym e) (subst (λ (q : Result B Fault). GivesToo s q) (sym e2) h)

pub byte_too : {A : Type 0} (b full full2 : Bool) (at : ℕ) (r s r2 s2 : Read A) → (full ≡ false → full2 ≡ false) → GivesToo r r2 → GivesToo s s2
    → GivesToo {B = A × ℕ × List ℕ} (elim b [ true ↦ within full at r | false ↦ s ]) (elim b [ true ↦ within full2 at r2 | false ↦ s2 ])
byte_too true true full2 at r s r2 s2 room h g = tt
byte_too true false full2 at r s r2 s2 room h g =
    gives_along r r (within full2 at r2) r2 refl (ap (λ (f : Bool). within f at r2) (room refl)) h
byte_too false full full2 at r s r2 s2 room h g = g

pub end_too : {B : Type 0} (b b2 : Bool) (x : B) (e e2 : Fault) → (b ≡ true → b2 ≡ true)
    → GivesToo {B = B} (elim b [ true ↦ Ok x | false ↦ Err e ]) (elim b2 [ true ↦ Ok x | false ↦ Err e2 ])
end_too true b2 x e e2 room = ap (λ (c : Bool). elim c [ true ↦ Ok x | false ↦ Err e2 ]) (room refl)
end_too false b2 x e e2 room = tt

pub fault_too : {B : Type 0} (b : Bool) (e e2 : Fault) (r : Result B Fault) → GivesToo {B = B} (elim b [ true ↦ Err e | false ↦ Err e2 ]) r
fault_too true e e2 r = tt
fault_too false e e2 r = tt

pub outcome_too : (table : Table) (x : Object) (from «end» next : ℕ) (again again2 : ℕ → List ℕ → ReadingResult) (start : ℕ) (r r2 : Read Found)
    → ((at : ℕ) (cs : List ℕ) → again at cs ≡ form x from «end» next → again2 at cs ≡ form x from «end» next) → GivesToo r r2
    → outcome table start again r ≡ form x from «end» next → outcome table start again2 r2 ≡ form x from «end» next
outcome_too table x from «end» next again again2 start (Ok (nothing token, at, cs)) r2 all h e = ap (outcome table start again2) h ∙ all (start + at) cs e
outcome_too table x from «end» next again again2 start (Ok (one token y, at, cs)) r2 all h e = ap (outcome table start again2) h ∙ e
outcome_too table x from «end» next again again2 start (Ok (lone_dot, at, cs)) r2 all h e = cc
outcome_too table x from «end» next again again2 start (Ok (the_end, at, cs)) r2 all h e = cc
outcome_too table x from «end» next again again2 start (Err f) r2 all h e = cc

-- ---- tokens

module _ (limit wider : ℕ) (larger : limit ≤ wider) where
  scan_too : (spells : List TypedByte → List Mark → Type 0) (scan : List TypedByte → Scanned) (at : ℕ) (xs : List TypedByte) (r : Scanned)
      → ((taken : List TypedByte) (marks : List Mark) (rest : List TypedByte) → spells taken marks → character_count marks ≤ wider → IsTrue (may_end rest)
      → scan (taken ++ rest) ≡ Ok (marks, at + length taken, rest))
      → SplitsBy spells limit at xs r → GivesToo (in_bytes r) (in_bytes (scan xs))
  scan_too spells scan at xs (Ok (marks, next, rest)) gives s =
      ap in_bytes
      (ap scan s.split ∙ gives s.taken marks rest s.spelled (omega (arith, larger, s.fits)) s.ends ∙ (λ i. Ok (marks, sym s.offset i, rest)))
  scan_too spells scan at xs (Err e) gives s = tt

  pub scanned_too : (escaped : Bool) (table : Table) (at : ℕ) (text : List ℕ) → GivesToo (token_at_front escaped table limit at text) (token_at_front escaped table wider at text)
  scanned_too false table at text =
      scan_too (Spells false) (token wider at) at (typed_text table text) (token limit at (typed_text table text))
      (λ taken marks rest s fits ends. spelled_gives s wider at rest fits ends) (splits limit at (typed_text table text))
  scanned_too true table at text =
      scan_too SpellsEscaped (escaped_token wider at) at (typed_text table text) (escaped_token limit at (typed_text table text))
      (λ taken marks rest s fits ends. escaped_gives s wider at rest fits ends) (escaped_token_splits limit at (typed_text table text))

abbrev pub within_text : ℕ → ScannedBytes → Read (List Mark)
within_text limit r = limited_token limit r (λ p. p.1)

pub token_too : (limit wider : ℕ) → limit ≤ wider → (r r2 : ScannedBytes) → GivesToo r r2 → GivesToo (within_text limit r) (within_text wider r2)
token_too limit wider larger (Ok (marks, next, ds)) r2 h =
    gives_along (within_text limit (Ok (marks, next, ds))) (within_text limit (Ok (marks, next, ds)))
    (within_text wider r2) (within_text wider (Ok (marks, next, ds))) refl (ap (within_text wider) h)
    (end_too {B = List Mark × ℕ × List ℕ} (nat_le next limit) (nat_le next wider) (marks, next, ds)
    (record { number = FORM_TOO_LONG; at = limit }) (record { number = FORM_TOO_LONG; at = wider })
    (λ e. le-leb next wider (omega (arith, larger, leb-true next limit e))))
token_too limit wider larger (Err e) r2 h =
    fault_too (stands_below limit e.refusal e.at) (record { number = scan_refusal_number e.refusal; at = e.at })
    (record { number = FORM_TOO_LONG; at = limit }) (within_text wider r2)
