-- No offset that a token gives is before its first byte, and a token that has begun has a mark.
use Rattle.std.proofs.Common.{◌≡◌, ◌≤◌, ◌<◌, length, not, ◌+◌, ◌-◌, ◌==◌, ◌||◌, ℕ, Bool, true, false, if◌then◌else◌, List, [], ◌∷◌, Ok, Err, MatchResult, IsTrue, refl, ap, arith}
use Rattle.readtable_core.specs.declared.characters.Syntax.{Syntax}
use Rattle.readtable_core.specs.declared.characters.Syntax.TheVariants.{Whitespace, Constituent, TerminatingMacro, NonTerminatingMacro, SingleEscape, MultipleEscape, Invalid}
use Rattle.readtable_core.specs.Characters.{has_invalid_trait}
use Rattle.token_scan.specs.declared.mark.Mark.{Mark}
use Rattle.token_scan.specs.declared.mark.Mark.TheVariants.{Plain, Quoted, Bar}
use Rattle.token_scan.specs.declared.stage.Stage.{Stage}
use Rattle.token_scan.specs.declared.stage.Stage.TheVariants.{Outside, Inside, EscapedOutside, EscapedInside, Refused}
use Rattle.token_scan.specs.Tokens.{TypedByte, kind, is_character, Scanned, with_front, after_single_escape, outside, inside}
use Rattle.token_scan.specs.Spelling.{is_plain_syntax, ends_tokens}
use Rattle.token_scan.specs.ByteByByte.{Scan, from_stage, is_empty_token, has_begun, token_from}
use Rattle.token_scan.proofs.Steps.{outside_ends, outside_plain, outside_escape, outside_bar, outside_invalid, inside_between, inside_escape, inside_bar, inside_invalid}

abbrev pub Forwards : ℕ → Scanned → Type 0
Forwards at r = MatchResult r (λ t. at ≤ t.1) (λ e. at ≤ e.at)

put_after : (front : List Mark) (at : ℕ) (r : Scanned) → Forwards at r → Forwards at (with_front front r)
put_after front at (Ok t) h = h
put_after front at (Err e) h = h

from_next : (at : ℕ) (r : Scanned) → Forwards (at + 1) r → Forwards at r
from_next at (Ok t) h = omega arith
from_next at (Err e) h = omega arith

chosen : (b : Bool) (at : ℕ) (r s : Scanned) → Forwards at r → Forwards at s → Forwards at (if b then r else s)
chosen true at r s first second = first
chosen false at r s first second = second

abbrev After : List TypedByte → Type 0
After xs = (stage : Stage) (left at : ℕ) → Forwards at (from_stage stage left at xs)

plain_forwards : (x : TypedByte) (xs : List TypedByte) (left at : ℕ) → IsTrue (is_plain_syntax (kind x)) → After xs
    → Forwards at (outside left at (x ∷ xs))
plain_forwards x xs left at is after =
    rw (outside_plain x xs left at is) (chosen (left == 0) at _ _ (omega arith)
    (chosen (has_invalid_trait x.byte) at _ _ (omega arith)
    (put_after (Plain x.byte ∷ []) at _ (from_next at _ (after Outside (left - 1) (at + 1))))))

between_forwards : (x : TypedByte) (xs : List TypedByte) (left at : ℕ) → IsTrue (is_plain_syntax (kind x) || ends_tokens (kind x)) → After xs
    → Forwards at (inside left at (x ∷ xs))
between_forwards x xs left at is after =
    rw (inside_between x xs left at is) (chosen (left == 0) at _ _ (omega arith)
    (put_after (Quoted x.byte ∷ []) at _ (from_next at _ (after Inside (left - 1) (at + 1)))))

outside_forwards : (x : TypedByte) (xs : List TypedByte) (left at : ℕ) → After xs → Forwards at (outside left at (x ∷ xs))
outside_forwards x xs left at after = by_kind (kind x) refl
  where
    by_kind : (k : Syntax) → kind x ≡ k → Forwards at (outside left at (x ∷ xs))
    by_kind Whitespace e = rw (outside_ends x xs left at (ap ends_tokens e)) (omega arith)
    by_kind TerminatingMacro e = rw (outside_ends x xs left at (ap ends_tokens e)) (omega arith)
    by_kind Constituent e = plain_forwards x xs left at (ap is_plain_syntax e) after
    by_kind NonTerminatingMacro e = plain_forwards x xs left at (ap is_plain_syntax e) after
    by_kind SingleEscape e = rw (outside_escape x xs left at e) (from_next at _ (after EscapedOutside left (at + 1)))
    by_kind MultipleEscape e = rw (outside_bar x xs left at e) (put_after (Bar ∷ []) at _ (from_next at _ (after Inside left (at + 1))))
    by_kind Invalid e = rw (outside_invalid x xs left at e) (omega arith)

inside_forwards : (x : TypedByte) (xs : List TypedByte) (left at : ℕ) → After xs → Forwards at (inside left at (x ∷ xs))
inside_forwards x xs left at after = by_kind (kind x) refl
  where
    by_kind : (k : Syntax) → kind x ≡ k → Forwards at (inside left at (x ∷ xs))
    by_kind Whitespace e = between_forwards x xs left at (rw e refl) after
    by_kind TerminatingMacro e = between_forwards x xs left at (rw e refl) after
    by_kind Constituent e = between_forwards x xs left at (rw e refl) after
    by_kind NonTerminatingMacro e = between_forwards x xs left at (rw e refl) after
    by_kind SingleEscape e = rw (inside_escape x xs left at e) (from_next at _ (after EscapedInside left (at + 1)))
    by_kind MultipleEscape e = rw (inside_bar x xs left at e) (put_after (Bar ∷ []) at _ (from_next at _ (after Outside left (at + 1))))
    by_kind Invalid e = rw (inside_invalid x xs left at e) (omega arith)

escaped_forwards : (x : TypedByte) (left at : ℕ) (more : ℕ → Scanned) → Forwards (at + 1) (more (left - 1)) → Forwards at (after_single_escape x left at more)
escaped_forwards x left at more h =
    chosen (is_character x) at _ _
    (chosen (left == 0) at _ _ (omega arith) (put_after (Quoted x.byte ∷ []) at _ (from_next at _ h)))
    (omega arith)

stage_forwards : (text : List TypedByte) → After text
unfolding outside
stage_forwards [] Outside left at = omega arith
stage_forwards [] Inside left at = omega arith
stage_forwards [] EscapedOutside left at = omega arith
stage_forwards [] EscapedInside left at = omega arith
stage_forwards [] (Refused refusal) left at = omega arith
stage_forwards (x ∷ xs) Outside left at = outside_forwards x xs left at (stage_forwards xs)
stage_forwards (x ∷ xs) Inside left at = inside_forwards x xs left at (stage_forwards xs)
stage_forwards (x ∷ xs) EscapedOutside left at =
    escaped_forwards x left at (λ left. outside left (at + 1) xs) (stage_forwards xs Outside (left - 1) (at + 1))
stage_forwards (x ∷ xs) EscapedInside left at =
    escaped_forwards x left at (λ left. inside left (at + 1) xs) (stage_forwards xs Inside (left - 1) (at + 1))
stage_forwards (x ∷ xs) (Refused refusal) left at = omega arith

pub forwards : (scan : Scan) (at : ℕ) (text : List TypedByte) → Forwards at (token_from scan at text)
forwards scan at text = put_after scan.marks at _ (stage_forwards text scan.stage scan.left at)

-- a token that has begun has a mark where it may end
pub begun_has_mark : (scan : Scan) → IsTrue (has_begun scan) → scan.stage ≡ Outside → 0 < length scan.marks
begun_has_mark scan begun outside = by scan.marks scan.stage begun outside
  where
    by : (marks : List Mark) (stage : Stage) → IsTrue (not (is_empty_token marks stage)) → stage ≡ Outside → 0 < length marks
    by [] Outside begun e = absurd cc
    by [] stage begun e = absurd cc
    by (m ∷ ms) stage begun e = omega arith
