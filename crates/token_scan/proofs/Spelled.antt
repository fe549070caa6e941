-- The bytes that spell marks give these marks.
use Rattle.std.proofs.Common.{◌||◌, if◌then◌else◌, ◌≡◌, ◌≤◌, ◌+◌, ◌-◌, ℕ, Bool, true, false, not, List, [], ◌∷◌, ◌++◌, length, Ok, IsTrue, refl, ap, ◌∙◌, arith}
use Rattle.std.proofs.lemmas.List.Sums.{sum_by-cons}
use Rattle.readtable_core.specs.declared.characters.Syntax.{Syntax}
use Rattle.readtable_core.specs.declared.characters.Syntax.TheVariants.{SingleEscape, MultipleEscape, Invalid}
use Rattle.token_scan.specs.declared.mark.Mark.{Mark}
use Rattle.token_scan.specs.declared.mark.Mark.TheVariants.{Plain, Quoted, Bar}
use Rattle.token_scan.specs.Tokens.{TypedByte, is_character, kind, Scanned, with_front, plain, escaped_character, after_single_escape, outside, inside, escaped_token}
use Rattle.token_scan.specs.Marks.{character_count, is_ascii_mark, are_ascii}
use Rattle.token_scan.specs.Spelling.{Spells, nothing, plain as spells_plain, between, escaped as spells_escaped, bar, SpellsEscaped, first as spells_first, may_end, is_plain_syntax, ends_tokens}
use Rattle.token_scan.proofs.Steps.{outside_ends, outside_plain, outside_escape, outside_bar, inside_between, inside_escape, inside_bar, room, plain_taken, escaped_taken}

-- what a text gives, where the test says whether it is between multiple escapes
abbrev pub from_bars : Bool → ℕ → ℕ → List TypedByte → Scanned
from_bars false left at text = outside left at text
from_bars true left at text = inside left at text

pub ends_here : (rest : List TypedByte) (left at : ℕ) → IsTrue (may_end rest) → outside left at rest ≡ Ok ([], at, rest)
unfolding outside
ends_here [] left at ends = refl
ends_here (x ∷ rest) left at ends = outside_ends x rest left at ends

pub plain_counts : (c : ℕ) (marks : List Mark) → character_count (Plain c ∷ marks) ≡ 1 + character_count marks
plain_counts c marks = sum_by-cons _ (Plain c) marks

pub quoted_counts : (c : ℕ) (marks : List Mark) → character_count (Quoted c ∷ marks) ≡ 1 + character_count marks
quoted_counts c marks = sum_by-cons _ (Quoted c) marks

pub bar_counts : (marks : List Mark) → character_count (Bar ∷ marks) ≡ character_count marks
bar_counts marks = sum_by-cons _ Bar marks ∙ (let h : 0 + character_count marks ≡ character_count marks = omega arith in h)

-- one more mark in front
more : (mark : Mark) (marks : List Mark) (rest : List TypedByte) (there offset : ℕ) (r : Scanned)
    → r ≡ Ok (marks, there, rest) → there ≡ offset → with_front (mark ∷ []) r ≡ Ok (mark ∷ marks, offset, rest)
more mark marks rest there offset r e p = ap (with_front (mark ∷ [])) e ∙ (λ i. Ok (mark ∷ marks, p i, rest))

pub escape_at : (bars : Bool) (escape x : TypedByte) (xs : List TypedByte) (left at : ℕ) → kind escape ≡ SingleEscape
    → from_bars bars left at (escape ∷ x ∷ xs) ≡ after_single_escape x left (at + 1) (λ left. from_bars bars left (at + 1 + 1) xs)
unfolding outside
escape_at false escape x xs left at e = outside_escape escape (x ∷ xs) left at e
escape_at true escape x xs left at e = inside_escape escape (x ∷ xs) left at e

pub bar_at : (bars : Bool) (x : TypedByte) (xs : List TypedByte) (left at : ℕ) → kind x ≡ MultipleEscape
    → from_bars bars left at (x ∷ xs) ≡ with_front (Bar ∷ []) (from_bars (not bars) left (at + 1) xs)
bar_at false x xs left at e = outside_bar x xs left at e
bar_at true x xs left at e = inside_bar x xs left at e

pub spelled_gives : {bars : Bool} {taken : List TypedByte} {marks : List Mark} → Spells bars taken marks
    → (left at : ℕ) (rest : List TypedByte) → character_count marks ≤ left → IsTrue (may_end rest)
    → from_bars bars left at (taken ++ rest) ≡ Ok (marks, at + length taken, rest)
spelled_gives nothing left at rest fits ends = ends_here rest left at ends ∙ (λ i. Ok ([], (let h : at ≡ at + 0 = omega arith in h) i, rest))
spelled_gives (spells_plain x xs marks is trait s) left at rest fits ends =
    outside_plain x (xs ++ rest) left at is
    ∙ room left at (λ left. plain x.byte at (outside left (at + 1) (xs ++ rest))) (omega (arith, fits, plain_counts x.byte marks))
    ∙ plain_taken x.byte left at _ trait
    ∙ more (Plain x.byte) marks rest _ _ _ (spelled_gives s (left - 1) (at + 1) rest (omega (arith, fits, plain_counts x.byte marks)) ends) (omega arith)
spelled_gives (between x xs marks is s) left at rest fits ends =
    inside_between x (xs ++ rest) left at is
    ∙ room left at (λ left. escaped_character x.byte (inside left (at + 1) (xs ++ rest))) (omega (arith, fits, quoted_counts x.byte marks))
    ∙ more (Quoted x.byte) marks rest _ _ _ (spelled_gives s (left - 1) (at + 1) rest (omega (arith, fits, quoted_counts x.byte marks)) ends) (omega arith)
spelled_gives (spells_escaped bars escape x xs marks is character s) left at rest fits ends =
    escape_at bars escape x (xs ++ rest) left at is
    ∙ escaped_taken x left (at + 1) (λ left. from_bars bars left (at + 1 + 1) (xs ++ rest)) character (omega (arith, fits, quoted_counts x.byte marks))
    ∙ more (Quoted x.byte) marks rest _ _ _ (spelled_gives s (left - 1) (at + 1 + 1) rest (omega (arith, fits, quoted_counts x.byte marks)) ends) (omega arith)
spelled_gives (bar bars x xs marks is s) left at rest fits ends =
    bar_at bars x (xs ++ rest) left at is
    ∙ more Bar marks rest _ _ _ (spelled_gives s left (at + 1) rest (omega (arith, fits, bar_counts marks)) ends) (omega arith)

-- the same where the first character is taken as an escaped one
pub escaped_gives : {taken : List TypedByte} {marks : List Mark} → SpellsEscaped taken marks
    → (left at : ℕ) (rest : List TypedByte) → character_count marks ≤ left → IsTrue (may_end rest)
    → escaped_token left at (taken ++ rest) ≡ Ok (marks, at + length taken, rest)
unfolding outside
escaped_gives (spells_first x xs marks character s) left at rest fits ends =
    escaped_taken x left at (λ left. outside left (at + 1) (xs ++ rest)) character (omega (arith, fits, quoted_counts x.byte marks))
    ∙ more (Quoted x.byte) marks rest _ _ _ (spelled_gives s (left - 1) (at + 1) rest (omega (arith, fits, quoted_counts x.byte marks)) ends) (omega arith)

-- ---- the characters are below 128

no_invalid : (p : Syntax → Bool) (b : Bool) (syntax : Syntax) → p Invalid ≡ false → IsTrue (p (if b then syntax else Invalid)) → IsTrue b
no_invalid p true syntax refused t = refl
no_invalid p false syntax refused t = cc

front_ascii : (mark : Mark) (marks : List Mark) → IsTrue (is_ascii_mark mark) → IsTrue (are_ascii marks) → IsTrue (are_ascii (mark ∷ marks))
front_ascii mark marks first others = rw (first, others) refl

pub spelled_ascii : {bars : Bool} {taken : List TypedByte} {marks : List Mark} → Spells bars taken marks → IsTrue (are_ascii marks)
spelled_ascii nothing = refl
spelled_ascii (spells_plain x xs marks is trait s) =
    front_ascii (Plain x.byte) marks (no_invalid is_plain_syntax (is_character x) x.syntax refl is) (spelled_ascii s)
spelled_ascii (between x xs marks is s) =
    front_ascii (Quoted x.byte) marks (no_invalid (λ k. is_plain_syntax k || ends_tokens k) (is_character x) x.syntax refl is) (spelled_ascii s)
spelled_ascii (spells_escaped bars escape x xs marks is character s) = front_ascii (Quoted x.byte) marks character (spelled_ascii s)
spelled_ascii (bar bars x xs marks is s) = front_ascii Bar marks refl (spelled_ascii s)

pub spelled_escaped_ascii : {taken : List TypedByte} {marks : List Mark} → SpellsEscaped taken marks → IsTrue (are_ascii marks)
spelled_escaped_ascii (spells_first x xs marks character s) = front_ascii (Quoted x.byte) marks character (spelled_ascii s)
