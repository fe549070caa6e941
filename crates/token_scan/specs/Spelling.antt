-- The bytes that spell the marks of a token.
use Rattle.std.specs.Prelude.{ℕ, ◌≡◌, ◌≤◌, ◌+◌, Bool, true, false, not, ◌||◌, List, [], ◌∷◌, ◌++◌, length, Ok, IsTrue}
use Rattle.readtable_core.specs.declared.characters.Syntax.{Syntax}
use Rattle.readtable_core.specs.declared.characters.Syntax.TheVariants.{Whitespace, Constituent, TerminatingMacro, NonTerminatingMacro, SingleEscape, MultipleEscape}
use Rattle.readtable_core.specs.Characters.{has_invalid_trait}
use Rattle.readtable_core.specs.Tables.{Table}
use Rattle.token_scan.specs.declared.mark.Mark.{Mark}
use Rattle.token_scan.specs.declared.mark.Mark.TheVariants.{Plain, Quoted, Bar}
use Rattle.token_scan.specs.Marks.{character_count}
use Rattle.token_scan.specs.Tokens.{TypedByte, is_character, kind, typed_text, ScannedBytes}

-- the syntax types that end a token
abbrev pub ends_tokens : Syntax → Bool
ends_tokens Whitespace = true
ends_tokens TerminatingMacro = true
ends_tokens _ = false

-- the syntax types of characters that are in a token as they are
abbrev pub is_plain_syntax : Syntax → Bool
is_plain_syntax Constituent = true
is_plain_syntax NonTerminatingMacro = true
is_plain_syntax _ = false

-- These bytes spell these marks. The test says whether the first of them is between multiple escapes; after the last
-- one no multiple escape is open.
pub data Spells : Bool → List TypedByte → List Mark → Type 0 where
  nothing : Spells false [] []
  -- a character outside, not escaped
  plain : (x : TypedByte) (xs : List TypedByte) (marks : List Mark)
      → IsTrue (is_plain_syntax (kind x)) → has_invalid_trait x.byte ≡ false
      → Spells false xs marks → Spells false (x ∷ xs) (Plain x.byte ∷ marks)
  -- a character between multiple escapes
  between : (x : TypedByte) (xs : List TypedByte) (marks : List Mark)
      → IsTrue (is_plain_syntax (kind x) || ends_tokens (kind x))
      → Spells true xs marks → Spells true (x ∷ xs) (Quoted x.byte ∷ marks)
  -- a single escape and the character after it
  escaped : (bars : Bool) (escape x : TypedByte) (xs : List TypedByte) (marks : List Mark)
      → kind escape ≡ SingleEscape → IsTrue (is_character x)
      → Spells bars xs marks → Spells bars (escape ∷ x ∷ xs) (Quoted x.byte ∷ marks)
  -- a multiple escape
  bar : (bars : Bool) (x : TypedByte) (xs : List TypedByte) (marks : List Mark)
      → kind x ≡ MultipleEscape
      → Spells (not bars) xs marks → Spells bars (x ∷ xs) (Bar ∷ marks)

-- Bytes spell these marks where the first byte is a character taken as an escaped one, whatever its syntax type.
pub data SpellsEscaped : List TypedByte → List Mark → Type 0 where
  first : (x : TypedByte) (xs : List TypedByte) (marks : List Mark)
      → IsTrue (is_character x) → Spells false xs marks → SpellsEscaped (x ∷ xs) (Quoted x.byte ∷ marks)

-- a token may end before this text
abbrev pub may_end : List TypedByte → Bool
may_end [] = true
may_end (x ∷ xs) = ends_tokens (kind x)

-- The text splits into the bytes that spell the marks and the rest, before which the token may end.
pub record Splits (spells : List TypedByte → List Mark → Type 0) (limit at : ℕ) (text : List TypedByte)
    (marks : List Mark) («end» : ℕ) (rest : List TypedByte) : Type 0 where
  pub taken : List TypedByte
  pub split : text ≡ taken ++ rest
  pub spelled : spells taken marks
  pub fits : character_count marks ≤ limit
  pub ends : IsTrue (may_end rest)
  pub offset : «end» ≡ at + length taken

-- A text of bytes under a readtable splits, and the bytes taken give the same token before each text where one may end.
-- `scanned` is what a text gives as a token.
pub record IsSpelledAt (table : Table) (scanned : List ℕ → ScannedBytes) (at : ℕ) (text : List ℕ)
    (marks : List Mark) («end» : ℕ) (rest : List ℕ) : Type 0 where
  pub taken : List ℕ
  pub split : text ≡ taken ++ rest
  pub offset : «end» ≡ at + length taken
  pub ends : IsTrue (may_end (typed_text table rest))
  pub again : (other : List ℕ) → IsTrue (may_end (typed_text table other)) → scanned (taken ++ other) ≡ Ok (marks, «end», other)
