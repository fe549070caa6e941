-- A text is empty exactly where it is discarded text.
use Rattle.std.proofs.Common.{◌≡◌, ℕ, zero, suc, ◌+◌, ◌-◌, ◌==◌, ◌<◌, Bool, true, false, List, [], ◌∷◌, length, map, Result, Ok, Err, IsTrue, refl, sym, ap, subst, ◌∙◌, length-append, arith}
use Rattle.std.specs.Prelude.{nat_le, if◌then◌else◌}
use Rattle.lisp_object.specs.Object.{Object}
use Rattle.lisp_object.specs.declared.refusal.TheConstants.{FORM_TOO_LONG}
use Rattle.readtable_core.specs.declared.characters.Syntax.{Syntax}
use Rattle.readtable_core.specs.declared.characters.Syntax.TheVariants.{Whitespace, Constituent, TerminatingMacro, NonTerminatingMacro, SingleEscape, MultipleEscape, Invalid}
use Rattle.readtable_core.specs.Characters.{has_invalid_trait}
use Rattle.readtable_core.specs.Tables.{Table, entry_at}
use Rattle.token_scan.specs.declared.mark.Mark.{Mark}
use Rattle.token_scan.specs.declared.mark.Mark.TheVariants.{Plain, Quoted, Bar}
use Rattle.token_scan.specs.declared.refusal.ScanRefusal.TheVariants.{InvalidCharacter, TokenTooLong, InvalidTrait}
use Rattle.token_scan.specs.Spelling.{is_plain_syntax}
use Rattle.token_scan.specs.Tokens.{TypedByte, Scanned, fault_of_scan as scan_fault, with_front, is_character, kind, typed_byte, typed_text, in_bytes, token_in, outside, inside, escaped_outside}
use Rattle.token_scan.proofs.Steps.{outside_plain, outside_escape, outside_bar, outside_invalid}
use Rattle.token_meaning.specs.Results.{scan_refusal_number}
use Rattle.lisp_reading.specs.declared.attempt.Found.{Found}
use Rattle.lisp_reading.specs.declared.attempt.Found.TheVariants.{Nothing as nothing_found, One as one, LoneDot as lone_dot, TheEnd as the_end}
use Rattle.lisp_reading.specs.declared.token_resolution.ResolvedToken.{ResolvedToken}
use Rattle.lisp_reading.specs.declared.token_resolution.ResolvedToken.TheVariants.{Object as told_object, Dot as dot_alone}
use Rattle.lisp_reading.specs.DiscardedText.{IsDiscardedText, nothing, more}
use Rattle.lisp_reading.specs.Naming.{token_meant}
use Rattle.lisp_reading.specs.Plans.{Read, within, stands_below, limited_token, run}
use Rattle.lisp_reading.specs.Setting.{Setting}
use Rattle.lisp_reading.specs.Reading.{ReadingResult, empty, stands_alone, alone, told_found, token_found, inner, attempt, outcome, reads_in, reads_at, reads}
use Rattle.lisp_reading.proofs.Refusals.{any}
use Rattle.lisp_reading.proofs.Forms.{first, reads_is, the_end_there}
use Rattle.lisp_reading.proofs.Keeping.{Given, given_keeps}
use Rattle.lisp_reading.proofs.Language.{CallAt, call_more, outermost_calls}
use Rattle.lisp_reading.proofs.Offsets.{Parts, parts}
use Rattle.lisp_reading.proofs.Steps.{eats}

-- ---- a token that begins with a byte that ends none has a mark

abbrev HasMarks : Scanned → Type 0
HasMarks (Ok ([], at, xs)) = ⊥
HasMarks (Ok (m ∷ ms, at, xs)) = Unit {0}
HasMarks (Err e) = Unit {0}

front_marks : (m : Mark) (r : Scanned) → HasMarks (with_front (m ∷ []) r)
front_marks m (Ok t) = tt
front_marks m (Err e) = tt

chosen_marks : (b : Bool) (r s : Scanned) → HasMarks r → HasMarks s → HasMarks (if b then r else s)
chosen_marks true r s p q = p
chosen_marks false r s p q = q

module _ (table : Table) (c : ℕ) (cs : List ℕ) (left at : ℕ) where
  abbrev x : TypedByte
  x = typed_byte table c

  abbrev xs : List TypedByte
  xs = typed_text table cs

  plain_marks : IsTrue (is_plain_syntax (kind x)) → HasMarks (outside left at (x ∷ xs))
  plain_marks is =
      subst HasMarks (sym (outside_plain x xs left at is))
      (chosen_marks (left == 0) (scan_fault TokenTooLong at) _ tt
      (chosen_marks (has_invalid_trait c) (scan_fault InvalidTrait at) _ tt (front_marks (Plain c) (outside (left - 1) (at + 1) xs))))

  escape_marks : (ys : List TypedByte) → HasMarks (escaped_outside left (at + 1) ys)
  unfolding outside
  escape_marks [] = tt
  escape_marks (y ∷ ys) =
      chosen_marks (is_character y) _ (scan_fault InvalidCharacter (at + 1))
      (chosen_marks (left == 0) (scan_fault TokenTooLong (at + 1)) _ tt (front_marks (Quoted y.byte) (outside (left - 1) (at + 1 + 1) ys))) tt

  -- the syntax type that counts is that of the readtable, unless the byte is no character
  typed_so : (k : Syntax) → kind x ≡ k → (k ≡ Invalid → ⊥) → (entry_at table c).syntax ≡ k
  typed_so k e other =
      elim (is_character x) as (λ b. (if b then x.syntax else Invalid) ≡ k → (entry_at table c).syntax ≡ k) [
        | true ↦ λ is. is
        | false ↦ λ is. absurd (other (sym is))
      ] e

  begins : stands_alone (entry_at table c).syntax ≡ false → HasMarks (outside left at (x ∷ xs))
  begins starts = by_kind (kind x) refl
    where
      by_kind : (k : Syntax) → kind x ≡ k → HasMarks (outside left at (x ∷ xs))
      by_kind Whitespace e = let alone_there : true ≡ false = sym (ap stands_alone (typed_so Whitespace e (λ no. cc))) ∙ starts in absurd cc
      by_kind TerminatingMacro e = let alone_there : true ≡ false = sym (ap stands_alone (typed_so TerminatingMacro e (λ no. cc))) ∙ starts in absurd cc
      by_kind Constituent e = plain_marks (ap is_plain_syntax e)
      by_kind NonTerminatingMacro e = plain_marks (ap is_plain_syntax e)
      by_kind SingleEscape e = subst HasMarks (sym (outside_escape x xs left at e)) (escape_marks xs)
      by_kind MultipleEscape e = subst HasMarks (sym (outside_bar x xs left at e)) (front_marks Bar (inside left (at + 1) xs))
      by_kind Invalid e = subst HasMarks (sym (outside_invalid x xs left at e)) tt

-- ---- only the empty text gives the end

abbrev bytes_of : List TypedByte → List ℕ
bytes_of ds = map (λ (y : TypedByte). y.byte) ds

abbrev IsEnd : Read Found → Type 0
IsEnd (Ok (the_end, at, cs)) = Unit {0}
IsEnd (Ok (nothing_found token, at, cs)) = ⊥
IsEnd (Ok (one token x, at, cs)) = ⊥
IsEnd (Ok (lone_dot, at, cs)) = ⊥
IsEnd (Err e) = ⊥

no_call_ends : (V : ℕ → Object → Type 0) (room : ℕ) (r : Read Found) → Given (CallAt V room) r → IsEnd r → ⊥
no_call_ends V room (Ok (the_end, at, cs)) h e = h
no_call_ends V room (Ok (nothing_found token, at, cs)) h e = e
no_call_ends V room (Ok (one token x, at, cs)) h e = e
no_call_ends V room (Ok (lone_dot, at, cs)) h e = e
no_call_ends V room (Err f) h e = e

module _ (setting : Setting) where
  told_ends : (r : Result ResolvedToken ℕ) (at : ℕ) (cs : List ℕ) → IsEnd (run setting.table setting.limits (told_found r) at cs) → ⊥
  unfolding run
  told_ends (Ok (told_object x)) at cs e = e
  told_ends (Ok dot_alone) at cs e = e
  told_ends (Err code) at cs e = e

  abbrev step : Read (List Mark) → Read Found
  step q = elim q [ Ok p ↦ run setting.table setting.limits (token_found setting p.0) p.1 p.2 | Err e ↦ Err e ]

  token_ends : (r : Scanned) → HasMarks r → IsEnd (step (limited_token setting.limits.text (in_bytes r) (λ p. p.1))) → ⊥
  token_ends (Ok ([], next, ds)) h e = h
  token_ends (Ok (m ∷ ms, next, ds)) h e =
      elim (nat_le next setting.limits.text) as (λ b. IsEnd (step (elim b [ true ↦ Ok (m ∷ ms, next, bytes_of ds) | false ↦ Err (record { number = FORM_TOO_LONG; at = setting.limits.text }) ])) → ⊥) [
        | true ↦ λ e. told_ends (token_meant setting (m ∷ ms)) next (bytes_of ds) e
        | false ↦ λ e. e
      ] e
  token_ends (Err f) h e =
      elim (stands_below setting.limits.text f.refusal f.at) as (λ b. IsEnd (step (elim b [
        | true ↦ Err (record { number = scan_refusal_number f.refusal; at = f.at })
        | false ↦ Err (record { number = FORM_TOO_LONG; at = setting.limits.text })
      ])) → ⊥) [ true ↦ λ e. e | false ↦ λ e. e ] e

  within_ends : (full : Bool) (r : Read Found) → (IsEnd r → ⊥) → IsEnd (within full 0 r) → ⊥
  within_ends true r never e = e
  within_ends false r never e = never e

  some_ends : (c : ℕ) (cs : List ℕ) → IsEnd (first setting (c ∷ cs)) → ⊥
  unfolding run
  some_ends c cs =
      let on = alone setting (setting.limits.nesting - setting.limits.nesting) (inner setting setting.limits.nesting) c (entry_at setting.table c).syntax in
      let call : IsEnd (run setting.table setting.limits on (0 + 1) cs) → ⊥ =
      no_call_ends (λ room x. Unit {0}) setting.limits.nesting (run setting.table setting.limits on (0 + 1) cs)
      (given_keeps (CallAt (λ room x. Unit {0}) setting.limits.nesting) (call_more (λ room x. Unit {0}) setting.limits.nesting) setting.table setting.limits on true (0 + 1) cs
      (outermost_calls setting (λ room x. Unit {0}) (any setting) c (entry_at setting.table c).syntax)) in
      let read : Bool → Read Found = λ b. elim b [
        | true ↦ within (nat_le setting.limits.text 0) 0 (run setting.table setting.limits on (0 + 1) cs)
        | false ↦ step (limited_token setting.limits.text (token_in setting.table setting.limits.token 0 (c ∷ cs)) (λ p. p.1))
      ] in
      let by : (b : Bool) → stands_alone (entry_at setting.table c).syntax ≡ b → IsEnd (read b) → ⊥ =
      λ b. elim b as (λ b. stands_alone (entry_at setting.table c).syntax ≡ b → IsEnd (read b) → ⊥) [
        | true ↦ λ is e. within_ends (nat_le setting.limits.text 0) (run setting.table setting.limits on (0 + 1) cs) call e
        | false ↦ λ is e. token_ends (outside setting.limits.token 0 (typed_text setting.table (c ∷ cs))) (begins setting.table c cs setting.limits.token 0 is) e
      ] in
      by (stands_alone (entry_at setting.table c).syntax) refl

  only_end : (text : List ℕ) → IsEnd (first setting text) → text ≡ []
  only_end [] e = refl
  only_end (c ∷ cs) e = absurd (some_ends c cs e)

  -- ---- empty texts

  turn_empty : (again : ℕ → List ℕ → ReadingResult) (start : ℕ) (whole : List ℕ) (r : Read Found) → first setting whole ≡ r → Parts 0 whole r
      → ((at : ℕ) (cs : List ℕ) → length cs < length whole → again at cs ≡ empty → IsDiscardedText setting cs)
      → outcome setting.table start again r ≡ empty → IsDiscardedText setting whole
  turn_empty again start whole (Ok (nothing_found token, at, cs)) found p all e =
      let some : 0 < at = eats setting.table setting.limits (attempt setting setting.limits.nesting) 0 at whole cs (nothing_found token)
      (λ f. let never : Ok (the_end, 0, []) ≡ Ok (nothing_found token, at, []) = sym (the_end_there setting) ∙ f in subst IsEnd never tt) found in
      let total : length whole ≡ length p.taken + length cs = ap length p.split ∙ length-append p.taken cs in
      more whole cs token at found (all (start + at) cs (omega (arith, some, p.offset, total)) e)
  turn_empty again start whole (Ok (one token x, at, cs)) found p all e = cc
  turn_empty again start whole (Ok (lone_dot, at, cs)) found p all e = cc
  turn_empty again start whole (Ok (the_end, at, cs)) found p all e = subst (IsDiscardedText setting) (sym (only_end whole (subst IsEnd (sym found) tt))) nothing
  turn_empty again start whole (Err f) found p all e = cc

  empty_discarded : (n start : ℕ) (whole : List ℕ) → length whole < n → reads_in setting n start whole ≡ empty → IsDiscardedText setting whole
  unfolding reads_in
  empty_discarded zero start whole lt e = absurd (omega (arith, lt))
  empty_discarded (suc n) start whole lt e =
      turn_empty (λ next cs. reads_in setting n next cs) start whole (first setting whole) refl (parts setting.table setting.limits (attempt setting setting.limits.nesting) 0 whole)
      (λ at cs less f. empty_discarded n at cs (omega (arith, less, lt)) f) e

  discarded_empty : (start : ℕ) (text : List ℕ) → IsDiscardedText setting text → reads_at setting start text ≡ empty
  discarded_empty start text nothing = reads_is setting start [] ∙ ap (outcome setting.table start (λ next cs. reads_at setting next cs)) (the_end_there setting)
  discarded_empty start text (more whole rest token at found d) =
      reads_is setting start whole ∙ ap (outcome setting.table start (λ next cs. reads_at setting next cs)) found ∙ discarded_empty (start + at) rest d

pub empty_is_discarded : (setting : Setting) (text : List ℕ) → reads setting text ≡ empty → IsDiscardedText setting text
unfolding reads
empty_is_discarded setting text e = empty_discarded setting (length text + 1) 0 text (omega arith) e

pub discarded_is_empty : (setting : Setting) (text : List ℕ) → IsDiscardedText setting text → reads setting text ≡ empty
unfolding reads
discarded_is_empty setting text d = discarded_empty setting 0 text d
