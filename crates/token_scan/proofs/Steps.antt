-- What a token gives at one byte, by the byte's syntax type.
use Rattle.std.proofs.Common.{◌≡◌, ◌<◌, ◌+◌, ◌-◌, ℕ, false, ◌||◌, List, [], ◌∷◌, Ok, IsTrue, refl, arith, rules}
use Rattle.readtable_core.specs.declared.characters.Syntax.{Syntax}
use Rattle.readtable_core.specs.declared.characters.Syntax.TheVariants.{Whitespace, Constituent, TerminatingMacro, NonTerminatingMacro, SingleEscape, MultipleEscape, Invalid}
use Rattle.readtable_core.specs.Characters.{has_invalid_trait}
use Rattle.token_scan.specs.declared.mark.Mark.TheVariants.{Plain, Bar}
use Rattle.token_scan.specs.declared.refusal.ScanRefusal.TheVariants.{InvalidCharacter}
use Rattle.token_scan.specs.Tokens.{TypedByte, kind, is_character, Scanned, fault_of_scan, with_front, one_more, plain, escaped_character, after_single_escape, outside, inside, escaped_outside, escaped_inside}
use Rattle.token_scan.specs.Spelling.{is_plain_syntax, ends_tokens}

-- ---- outside multiple escapes

pub outside_ends : (x : TypedByte) (xs : List TypedByte) (left at : ℕ) → IsTrue (ends_tokens (kind x))
    → outside left at (x ∷ xs) ≡ Ok ([], at, x ∷ xs)
unfolding outside
outside_ends x xs left at ends = by_kind (kind x) refl ends
  where
    by_kind : (k : Syntax) → kind x ≡ k → IsTrue (ends_tokens k) → outside left at (x ∷ xs) ≡ Ok ([], at, x ∷ xs)
    by_kind Whitespace e t = rw (e, outside) refl
    by_kind TerminatingMacro e t = rw (e, outside) refl
    by_kind _ e t = cc

pub outside_plain : (x : TypedByte) (xs : List TypedByte) (left at : ℕ) → IsTrue (is_plain_syntax (kind x))
    → outside left at (x ∷ xs) ≡ one_more left at (λ left. plain x.byte at (outside left (at + 1) xs))
unfolding outside
outside_plain x xs left at is = by_kind (kind x) refl is
  where
    by_kind : (k : Syntax) → kind x ≡ k → IsTrue (is_plain_syntax k)
        → outside left at (x ∷ xs) ≡ one_more left at (λ left. plain x.byte at (outside left (at + 1) xs))
    by_kind Constituent e t = rw (e, outside) refl
    by_kind NonTerminatingMacro e t = rw (e, outside) refl
    by_kind _ e t = cc

pub outside_escape : (x : TypedByte) (xs : List TypedByte) (left at : ℕ) → kind x ≡ SingleEscape
    → outside left at (x ∷ xs) ≡ escaped_outside left (at + 1) xs
unfolding outside
outside_escape x xs left at e = rw (e, outside) refl

pub outside_bar : (x : TypedByte) (xs : List TypedByte) (left at : ℕ) → kind x ≡ MultipleEscape
    → outside left at (x ∷ xs) ≡ with_front (Bar ∷ []) (inside left (at + 1) xs)
unfolding outside
outside_bar x xs left at e = rw (e, outside) refl

pub outside_invalid : (x : TypedByte) (xs : List TypedByte) (left at : ℕ) → kind x ≡ Invalid
    → outside left at (x ∷ xs) ≡ fault_of_scan InvalidCharacter at
unfolding outside
outside_invalid x xs left at e = rw (e, outside) refl

-- ---- between multiple escapes

pub inside_between : (x : TypedByte) (xs : List TypedByte) (left at : ℕ) → IsTrue (is_plain_syntax (kind x) || ends_tokens (kind x))
    → inside left at (x ∷ xs) ≡ one_more left at (λ left. escaped_character x.byte (inside left (at + 1) xs))
unfolding outside
inside_between x xs left at is = by_kind (kind x) refl is
  where
    by_kind : (k : Syntax) → kind x ≡ k → IsTrue (is_plain_syntax k || ends_tokens k)
        → inside left at (x ∷ xs) ≡ one_more left at (λ left. escaped_character x.byte (inside left (at + 1) xs))
    by_kind Whitespace e t = rw (e, inside) refl
    by_kind TerminatingMacro e t = rw (e, inside) refl
    by_kind Constituent e t = rw (e, inside) refl
    by_kind NonTerminatingMacro e t = rw (e, inside) refl
    by_kind _ e t = cc

pub inside_escape : (x : TypedByte) (xs : List TypedByte) (left at : ℕ) → kind x ≡ SingleEscape
    → inside left at (x ∷ xs) ≡ escaped_inside left (at + 1) xs
unfolding outside
inside_escape x xs left at e = rw (e, inside) refl

pub inside_bar : (x : TypedByte) (xs : List TypedByte) (left at : ℕ) → kind x ≡ MultipleEscape
    → inside left at (x ∷ xs) ≡ with_front (Bar ∷ []) (outside left (at + 1) xs)
unfolding outside
inside_bar x xs left at e = rw (e, inside) refl

pub inside_invalid : (x : TypedByte) (xs : List TypedByte) (left at : ℕ) → kind x ≡ Invalid
    → inside left at (x ∷ xs) ≡ fault_of_scan InvalidCharacter at
unfolding outside
inside_invalid x xs left at e = rw (e, inside) refl

-- ---- where there is room for a character, and it may be taken

pub room : (left at : ℕ) (more : ℕ → Scanned) → 0 < left → one_more left at more ≡ more (left - 1)
room left at more h = search (rules, arith)

pub plain_taken : (c left at : ℕ) (more : Scanned) → has_invalid_trait c ≡ false → plain c at more ≡ with_front (Plain c ∷ []) more
plain_taken c left at more e = rw e refl

pub escaped_taken : (x : TypedByte) (left at : ℕ) (more : ℕ → Scanned) → IsTrue (is_character x) → 0 < left
    → after_single_escape x left at more ≡ escaped_character x.byte (more (left - 1))
escaped_taken x left at more e h = rw e (room left at (λ left. escaped_character x.byte (more left)) h)
