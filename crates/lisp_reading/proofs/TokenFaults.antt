-- Where a token is refused before the end of a text, it is refused so whatever follows. Where it is refused at the end, or ends
-- there, nothing that follows is before this offset.
use Rattle.std.proofs.Common.{◌≡◌, ◌≤◌, ◌<◌, ◌+◌, ◌-◌, ◌==◌, ◌||◌, ℕ, Bool, true, false, if◌then◌else◌, List, [], ◌∷◌, ◌++◌, length, Ok, Err, MatchResult, IsTrue, refl, sym, ap, subst, arith}
use Rattle.std.proofs.lemmas.List.{map-append, length-map}
use Rattle.readtable_core.specs.declared.characters.Syntax.{Syntax}
use Rattle.readtable_core.specs.declared.characters.Syntax.TheVariants.{Whitespace, Constituent, TerminatingMacro, NonTerminatingMacro, SingleEscape, MultipleEscape, Invalid}
use Rattle.readtable_core.specs.Characters.{has_invalid_trait}
use Rattle.readtable_core.specs.Tables.{Table}
use Rattle.token_scan.specs.declared.mark.Mark.{Mark}
use Rattle.token_scan.specs.declared.mark.Mark.TheVariants.{Plain, Quoted, Bar}
use Rattle.token_scan.specs.declared.refusal.ScanRefusal.{ScanRefusal}
use Rattle.token_scan.specs.declared.refusal.ScanRefusal.TheVariants.{InvalidCharacter, InvalidTrait, TokenTooLong}
use Rattle.token_scan.specs.declared.stage.Stage.{Stage}
use Rattle.token_scan.specs.declared.stage.Stage.TheVariants.{Outside, Inside, EscapedOutside, EscapedInside, Refused}
use Rattle.token_scan.specs.Tokens.{TypedByte, kind, is_character, Scanned, ScannedBytes, fault_of_scan, with_front, after_single_escape, outside, inside, typed_byte, typed_text, in_bytes}
use Rattle.token_scan.specs.Spelling.{is_plain_syntax, ends_tokens}
use Rattle.token_scan.specs.ByteByByte.{from_stage}
use Rattle.token_scan.proofs.Forwards.{Forwards, forwards}
use Rattle.token_scan.proofs.Steps.{outside_ends, outside_plain, outside_escape, outside_bar, outside_invalid, inside_between, inside_escape, inside_bar, inside_invalid}
use Rattle.lisp_reading.specs.Plans.{token_at_front}

-- what a longer text gives, of one that ends at this offset
abbrev Extends : ℕ → Scanned → Scanned → Type 0
Extends «end» longer (Ok (marks, next, [])) = Forwards «end» longer
Extends «end» longer (Ok (marks, next, x ∷ xs)) = Unit {0}
Extends «end» longer (Err f) = (f.at ≤ «end») × (f.at < «end» → longer ≡ Err f) × («end» ≤ f.at → Forwards «end» longer)

from_before : (a b : ℕ) (r : Scanned) → a ≤ b → Forwards b r → Forwards a r
from_before a b (Ok t) le h = omega (arith, le, h)
from_before a b (Err e) le h = omega (arith, le, h)

unfronted : (at : ℕ) (r : Scanned) → Forwards at (with_front [] r) → Forwards at r
unfronted at (Ok t) h = h
unfronted at (Err e) h = h

stage_forwards : (stage : Stage) (left at : ℕ) (text : List TypedByte) → Forwards at (from_stage stage left at text)
stage_forwards stage left at text = unfronted at (from_stage stage left at text) (forwards (record { marks = []; stage = stage; left = left }) at text)

put_front : (front : List Mark) («end» : ℕ) (r : Scanned) → Forwards «end» r → Forwards «end» (with_front front r)
put_front front «end» (Ok t) h = h
put_front front «end» (Err e) h = h

front_extends : (front : List Mark) («end» : ℕ) (longer r : Scanned) → Extends «end» longer r → Extends «end» (with_front front longer) (with_front front r)
front_extends front «end» longer (Ok (marks, next, [])) h = put_front front «end» longer h
front_extends front «end» longer (Ok (marks, next, x ∷ xs)) h = tt
front_extends front «end» longer (Err f) h = (h.0, λ lt. ap (with_front front) (h.1 lt), λ le. put_front front «end» longer (h.2 le))

chosen : («end» : ℕ) (b : Bool) (l l2 r r2 : Scanned) → Extends «end» l r → Extends «end» l2 r2 → Extends «end» (if b then l else l2) (if b then r else r2)
chosen «end» true l l2 r r2 p q = p
chosen «end» false l l2 r r2 p q = q

fault_extends : («end» at : ℕ) (refusal : ScanRefusal) → at < «end» → Extends «end» (fault_of_scan refusal at) (fault_of_scan refusal at)
fault_extends «end» at refusal lt = (omega (arith, lt), λ _. refl, λ le. omega (arith, lt, le))

or_first : (p q : Bool) → IsTrue p → IsTrue (p || q)
or_first true q is = refl
or_first false q is = cc

or_second : (p q : Bool) → IsTrue q → IsTrue (p || q)
or_second true q is = refl
or_second false q is = is

same_extends : («end» : ℕ) (l l2 r r2 : Scanned) → l ≡ l2 → r ≡ r2 → Extends «end» l2 r2 → Extends «end» l r
same_extends «end» l l2 r r2 p q h = subst (λ (s : Scanned). Extends «end» s r) (sym p) (subst (λ (s : Scanned). Extends «end» l2 s) (sym q) h)

there : (a b : ℕ) (l r : Scanned) → a ≡ b → Extends a l r → Extends b l r
there a b l r e h = subst (λ (n : ℕ). Extends n l r) e h

-- a text that ends here
empty_extends : (stage : Stage) (left at : ℕ) (more : List TypedByte) → Extends (at + 0) (from_stage stage left at more) (from_stage stage left at [])
unfolding outside
empty_extends Outside left at more = from_before (at + 0) at (from_stage Outside left at more) (omega arith) (stage_forwards Outside left at more)
empty_extends Inside left at more =
    (omega arith, λ lt. absurd (omega (arith, lt)), λ _. from_before (at + 0) at (from_stage Inside left at more) (omega arith) (stage_forwards Inside left at more))
empty_extends EscapedOutside left at more =
    (omega arith, λ lt. absurd (omega (arith, lt)), λ _. from_before (at + 0) at (from_stage EscapedOutside left at more) (omega arith) (stage_forwards EscapedOutside left at more))
empty_extends EscapedInside left at more =
    (omega arith, λ lt. absurd (omega (arith, lt)), λ _. from_before (at + 0) at (from_stage EscapedInside left at more) (omega arith) (stage_forwards EscapedInside left at more))
empty_extends (Refused refusal) left at more = (omega arith, λ _. refl, λ _. omega arith)

module _ (more : List TypedByte) where
  abbrev After : List TypedByte → Type 0
  After xs = (stage : Stage) (left at : ℕ) → Extends (at + length xs) (from_stage stage left at (xs ++ more)) (from_stage stage left at xs)

  module _ (x : TypedByte) (xs : List TypedByte) (after : After xs) (left at : ℕ) where
    abbrev last : ℕ
    last = at + length (x ∷ xs)

    next_extends : (stage : Stage) (room : ℕ) → Extends last (from_stage stage room (at + 1) (xs ++ more)) (from_stage stage room (at + 1) xs)
    next_extends stage room =
        there (at + 1 + length xs) last (from_stage stage room (at + 1) (xs ++ more)) (from_stage stage room (at + 1) xs) (omega arith) (after stage room (at + 1))

    here_fault : (refusal : ScanRefusal) → Extends last (fault_of_scan refusal at) (fault_of_scan refusal at)
    here_fault refusal = fault_extends last at refusal (omega arith)

    ends_extends : IsTrue (ends_tokens (kind x)) → Extends last (outside left at (x ∷ xs ++ more)) (outside left at (x ∷ xs))
    ends_extends is = same_extends last (outside left at (x ∷ xs ++ more)) (outside left at (x ∷ xs ++ more)) (outside left at (x ∷ xs)) (Ok ([], at, x ∷ xs)) refl (outside_ends x xs left at is) tt

    plain_extends : IsTrue (is_plain_syntax (kind x)) → Extends last (outside left at (x ∷ xs ++ more)) (outside left at (x ∷ xs))
    plain_extends is =
        same_extends last _ _ _ _ (outside_plain x (xs ++ more) left at is) (outside_plain x xs left at is)
        (chosen last (left == 0) _ _ _ _ (here_fault TokenTooLong)
        (chosen last (has_invalid_trait x.byte) _ _ _ _ (here_fault InvalidTrait)
        (front_extends (Plain x.byte ∷ []) last (outside (left - 1) (at + 1) (xs ++ more)) (outside (left - 1) (at + 1) xs) (next_extends Outside (left - 1)))))

    between_extends : IsTrue (is_plain_syntax (kind x) || ends_tokens (kind x)) → Extends last (inside left at (x ∷ xs ++ more)) (inside left at (x ∷ xs))
    between_extends is =
        same_extends last _ _ _ _ (inside_between x (xs ++ more) left at is) (inside_between x xs left at is)
        (chosen last (left == 0) _ _ _ _ (here_fault TokenTooLong)
        (front_extends (Quoted x.byte ∷ []) last (inside (left - 1) (at + 1) (xs ++ more)) (inside (left - 1) (at + 1) xs) (next_extends Inside (left - 1))))

    -- by the kind of the first character, where an escape, a bar and an invalid character are scanned so
    kinds_extend : (scan : ℕ → ℕ → List TypedByte → Scanned) (quoting other : Stage)
        → ((ys : List TypedByte) → kind x ≡ SingleEscape → scan left at (x ∷ ys) ≡ from_stage quoting left (at + 1) ys)
        → ((ys : List TypedByte) → kind x ≡ MultipleEscape → scan left at (x ∷ ys) ≡ with_front (Bar ∷ []) (from_stage other left (at + 1) ys))
        → ((ys : List TypedByte) → kind x ≡ Invalid → scan left at (x ∷ ys) ≡ fault_of_scan InvalidCharacter at)
        → (IsTrue (is_plain_syntax (kind x)) → Extends last (scan left at (x ∷ xs ++ more)) (scan left at (x ∷ xs)))
        → (IsTrue (ends_tokens (kind x)) → Extends last (scan left at (x ∷ xs ++ more)) (scan left at (x ∷ xs)))
        → Extends last (scan left at (x ∷ xs ++ more)) (scan left at (x ∷ xs))
    kinds_extend scan quoting other escapes bars faults plain ends = by_kind (kind x) refl
      where
        by_kind : (k : Syntax) → kind x ≡ k → Extends last (scan left at (x ∷ xs ++ more)) (scan left at (x ∷ xs))
        by_kind Whitespace e = ends (ap ends_tokens e)
        by_kind TerminatingMacro e = ends (ap ends_tokens e)
        by_kind Constituent e = plain (ap is_plain_syntax e)
        by_kind NonTerminatingMacro e = plain (ap is_plain_syntax e)
        by_kind SingleEscape e = same_extends last _ _ _ _ (escapes (xs ++ more) e) (escapes xs e) (next_extends quoting left)
        by_kind MultipleEscape e =
            same_extends last _ _ _ _ (bars (xs ++ more) e) (bars xs e)
            (front_extends (Bar ∷ []) last (from_stage other left (at + 1) (xs ++ more)) (from_stage other left (at + 1) xs) (next_extends other left))
        by_kind Invalid e = same_extends last _ _ _ _ (faults (xs ++ more) e) (faults xs e) (here_fault InvalidCharacter)

    outside_extends : Extends last (outside left at (x ∷ xs ++ more)) (outside left at (x ∷ xs))
    outside_extends =
        kinds_extend outside EscapedOutside Inside (λ ys e. outside_escape x ys left at e) (λ ys e. outside_bar x ys left at e) (λ ys e. outside_invalid x ys left at e)
        plain_extends ends_extends

    inside_extends : Extends last (inside left at (x ∷ xs ++ more)) (inside left at (x ∷ xs))
    inside_extends =
        kinds_extend inside EscapedInside Outside (λ ys e. inside_escape x ys left at e) (λ ys e. inside_bar x ys left at e) (λ ys e. inside_invalid x ys left at e)
        (λ is. between_extends (or_first _ _ is)) (λ is. between_extends (or_second _ _ is))

    escaped_extends : (longer r : ℕ → Scanned) → Extends last (longer (left - 1)) (r (left - 1)) → Extends last (after_single_escape x left at longer) (after_single_escape x left at r)
    escaped_extends longer r h =
        chosen last (is_character x) _ _ _ _
        (chosen last (left == 0) _ _ _ _ (here_fault TokenTooLong) (front_extends (Quoted x.byte ∷ []) last (longer (left - 1)) (r (left - 1)) h))
        (here_fault InvalidCharacter)

  stage_extends : (xs : List TypedByte) → After xs
  unfolding outside
  stage_extends [] stage left at = empty_extends stage left at more
  stage_extends (x ∷ xs) Outside left at = outside_extends x xs (stage_extends xs) left at
  stage_extends (x ∷ xs) Inside left at = inside_extends x xs (stage_extends xs) left at
  stage_extends (x ∷ xs) EscapedOutside left at =
      escaped_extends x xs (stage_extends xs) left at (λ room. outside room (at + 1) (xs ++ more)) (λ room. outside room (at + 1) xs) (next_extends x xs (stage_extends xs) left at Outside (left - 1))
  stage_extends (x ∷ xs) EscapedInside left at =
      escaped_extends x xs (stage_extends xs) left at (λ room. inside room (at + 1) (xs ++ more)) (λ room. inside room (at + 1) xs) (next_extends x xs (stage_extends xs) left at Inside (left - 1))
  stage_extends (x ∷ xs) (Refused refusal) left at = here_fault x xs (stage_extends xs) left at refusal

-- ---- in bytes

-- no offset that it gives is before this one
abbrev pub IsFrom : ℕ → ScannedBytes → Type 0
IsFrom at r = MatchResult r (λ t. at ≤ t.1) (λ e. at ≤ e.at)

abbrev pub IsLonger : ℕ → ScannedBytes → ScannedBytes → Type 0
IsLonger «end» longer (Ok (marks, next, [])) = IsFrom «end» longer
IsLonger «end» longer (Ok (marks, next, c ∷ cs)) = Unit {0}
IsLonger «end» longer (Err f) = (f.at ≤ «end») × (f.at < «end» → longer ≡ Err f) × («end» ≤ f.at → IsFrom «end» longer)

from_bytes : («end» : ℕ) (r : Scanned) → Forwards «end» r → IsFrom «end» (in_bytes r)
from_bytes «end» (Ok t) h = h
from_bytes «end» (Err e) h = h

bytes_extend : («end» : ℕ) (longer r : Scanned) → Extends «end» longer r → IsLonger «end» (in_bytes longer) (in_bytes r)
bytes_extend «end» longer (Ok (marks, next, [])) h = from_bytes «end» longer h
bytes_extend «end» longer (Ok (marks, next, x ∷ xs)) h = tt
bytes_extend «end» longer (Err f) h = (h.0, λ lt. ap in_bytes (h.1 lt), λ le. from_bytes «end» longer (h.2 le))

stage_longer : (stage : Stage) (table : Table) (limit at : ℕ) (text more : List ℕ)
    → IsLonger (at + length text) (in_bytes (from_stage stage limit at (typed_text table (text ++ more)))) (in_bytes (from_stage stage limit at (typed_text table text)))
stage_longer stage table limit at text more =
    let joined : typed_text table (text ++ more) ≡ typed_text table text ++ typed_text table more = map-append (typed_byte table) text more in
    let many : at + length (typed_text table text) ≡ at + length text = ap (λ (n : ℕ). at + n) (length-map text (typed_byte table)) in
    let of_typed = bytes_extend (at + length (typed_text table text)) (from_stage stage limit at (typed_text table text ++ typed_text table more)) (from_stage stage limit at (typed_text table text))
    (stage_extends (typed_text table more) (typed_text table text) stage limit at) in
    subst (λ (n : ℕ). IsLonger n (in_bytes (from_stage stage limit at (typed_text table (text ++ more)))) (in_bytes (from_stage stage limit at (typed_text table text)))) many
    (subst (λ (xs : List TypedByte). IsLonger (at + length (typed_text table text)) (in_bytes (from_stage stage limit at xs)) (in_bytes (from_stage stage limit at (typed_text table text)))) (sym joined) of_typed)

pub token_longer : (escaped : Bool) (table : Table) (limit at : ℕ) (text more : List ℕ)
    → IsLonger (at + length text) (token_at_front escaped table limit at (text ++ more)) (token_at_front escaped table limit at text)
token_longer false table limit at text more = stage_longer Outside table limit at text more
token_longer true table limit at text more = stage_longer EscapedOutside table limit at text more

pub token_from_here : (escaped : Bool) (table : Table) (limit at : ℕ) (text : List ℕ) → IsFrom at (token_at_front escaped table limit at text)
token_from_here false table limit at text = from_bytes at (from_stage Outside limit at (typed_text table text)) (stage_forwards Outside limit at (typed_text table text))
token_from_here true table limit at text = from_bytes at (from_stage EscapedOutside limit at (typed_text table text)) (stage_forwards EscapedOutside limit at (typed_text table text))
