-- Tokens (standard 2.2, steps 5 to 9): where a token ends, and the marks of its characters.
use Rattle.std.specs.Prelude.{ℕ, ◌+◌, ◌-◌, ◌==◌, nat_lt, Bool, if◌then◌else◌, List, [], ◌∷◌, ◌++◌, map, Result, Ok, Err}
use Rattle.readtable_core.specs.declared.characters.Syntax.{Syntax}
use Rattle.readtable_core.specs.declared.characters.Syntax.TheVariants.{Whitespace, Constituent, TerminatingMacro, NonTerminatingMacro, SingleEscape, MultipleEscape, Invalid}
use Rattle.readtable_core.specs.Characters.{has_invalid_trait}
use Rattle.readtable_core.specs.Tables.{Table, entry_at}
use Rattle.token_scan.specs.declared.mark.Mark.{Mark}
use Rattle.token_scan.specs.declared.mark.Mark.TheVariants.{Plain, Quoted, Bar}
use Rattle.token_scan.specs.declared.refusal.ScanRefusal.{ScanRefusal}
use Rattle.token_scan.specs.declared.refusal.ScanRefusal.TheVariants.{EndOfFile, InvalidCharacter, InvalidTrait, TokenTooLong}

-- a byte as a reader meets it, with the syntax type that it has in the readtable in force
pub record TypedByte : Type 0 where
  pub syntax : Syntax
  pub byte : ℕ

-- this byte, met with this syntax type
abbrev pub met : Syntax → ℕ → TypedByte
met syntax c = record { syntax = syntax; byte = c }

-- characters are the numbers 0 to 127
abbrev pub is_character : TypedByte → Bool
is_character x = nat_lt x.byte 128

-- the syntax type that counts: what is no character is invalid whatever a readtable says
abbrev pub kind : TypedByte → Syntax
kind x = if is_character x then x.syntax else Invalid

-- why and where a token is refused
pub record ScanFault : Type 0 where
  pub refusal : ScanRefusal
  pub at : ℕ

-- The marks of the token, the offset after it and the rest of the text, or the first fault. Offsets count the bytes.
abbrev pub Scanned : Type 0
Scanned = Result (List Mark × ℕ × List TypedByte) ScanFault

-- a refusal at this offset
abbrev pub fault_of_scan : ScanRefusal → ℕ → Scanned
fault_of_scan refusal at = Err (record { refusal = refusal; at = at })

-- the token with these marks in front
abbrev pub with_front : List Mark → Scanned → Scanned
with_front front (Ok (marks, at, rest)) = Ok (front ++ marks, at, rest)
with_front front (Err e) = Err e

-- a character at this offset, where so many may still come
abbrev pub one_more : ℕ → ℕ → (ℕ → Scanned) → Scanned
one_more left at more = if left == 0 then fault_of_scan TokenTooLong at else more (left - 1)

-- a character that is not escaped
abbrev pub plain : ℕ → ℕ → Scanned → Scanned
plain c at more = if has_invalid_trait c then fault_of_scan InvalidTrait at else with_front (Plain c ∷ []) more

-- a character after a single escape or between multiple escapes
abbrev pub escaped_character : ℕ → Scanned → Scanned
escaped_character c more = with_front (Quoted c ∷ []) more

-- what comes after a single escape: any character, whatever its syntax type
abbrev pub after_single_escape : TypedByte → ℕ → ℕ → (ℕ → Scanned) → Scanned
after_single_escape x left at more =
    if is_character x then one_more left at (λ left. escaped_character x.byte (more left)) else fault_of_scan InvalidCharacter at

-- What a token gives from this offset of a text on, where so many characters may still come. A byte that ends the token is
-- not taken.
unfoldable mutual
  -- outside multiple escapes (step 8)
  pub outside : ℕ → ℕ → List TypedByte → Scanned
  outside left at [] = Ok ([], at, [])
  outside left at (x ∷ xs) =
      elim (kind x) [
        | Whitespace ↦ Ok ([], at, x ∷ xs)
        | TerminatingMacro ↦ Ok ([], at, x ∷ xs)
        | Constituent ↦ one_more left at (λ left. plain x.byte at (outside left (at + 1) xs))
        | NonTerminatingMacro ↦ one_more left at (λ left. plain x.byte at (outside left (at + 1) xs))
        | SingleEscape ↦ escaped_outside left (at + 1) xs
        | MultipleEscape ↦ with_front (Bar ∷ []) (inside left (at + 1) xs)
        | Invalid ↦ fault_of_scan InvalidCharacter at
      ]

  -- between multiple escapes (step 9)
  pub inside : ℕ → ℕ → List TypedByte → Scanned
  inside left at [] = fault_of_scan EndOfFile at
  inside left at (x ∷ xs) =
      elim (kind x) [
        | Whitespace ↦ one_more left at (λ left. escaped_character x.byte (inside left (at + 1) xs))
        | TerminatingMacro ↦ one_more left at (λ left. escaped_character x.byte (inside left (at + 1) xs))
        | Constituent ↦ one_more left at (λ left. escaped_character x.byte (inside left (at + 1) xs))
        | NonTerminatingMacro ↦ one_more left at (λ left. escaped_character x.byte (inside left (at + 1) xs))
        | SingleEscape ↦ escaped_inside left (at + 1) xs
        | MultipleEscape ↦ with_front (Bar ∷ []) (outside left (at + 1) xs)
        | Invalid ↦ fault_of_scan InvalidCharacter at
      ]

  -- after a single escape, outside and between
  pub escaped_outside : ℕ → ℕ → List TypedByte → Scanned
  escaped_outside left at [] = fault_of_scan EndOfFile at
  escaped_outside left at (x ∷ xs) = after_single_escape x left at (λ left. outside left (at + 1) xs)

  pub escaped_inside : ℕ → ℕ → List TypedByte → Scanned
  escaped_inside left at [] = fault_of_scan EndOfFile at
  escaped_inside left at (x ∷ xs) = after_single_escape x left at (λ left. inside left (at + 1) xs)

-- the token that begins at this offset, of at most so many characters: bars and escapes are not counted
abbrev pub token : ℕ → ℕ → List TypedByte → Scanned
token limit at text = outside limit at text

-- The token whose first character is taken as an escaped one is, whatever its syntax type, as that of a character's name is
-- (standard 2.4.8.1). That character counts.
abbrev pub escaped_token : ℕ → ℕ → List TypedByte → Scanned
escaped_token limit at text = escaped_outside limit at text

-- ---- the same of a text of bytes under a readtable

-- a byte with its syntax type in this readtable
abbrev pub typed_byte : Table → ℕ → TypedByte
typed_byte table c = met (entry_at table c).syntax c

abbrev pub typed_text : Table → List ℕ → List TypedByte
typed_text table text = map (typed_byte table) text

-- the marks, the offset after the token and the rest of the bytes, or the first fault
abbrev pub ScannedBytes : Type 0
ScannedBytes = Result (List Mark × ℕ × List ℕ) ScanFault

abbrev pub in_bytes : Scanned → ScannedBytes
in_bytes (Ok (marks, at, rest)) = Ok (marks, at, map (λ x. x.byte) rest)
in_bytes (Err e) = Err e

-- the token at the front of a text, in this readtable
abbrev pub token_in : Table → ℕ → ℕ → List ℕ → ScannedBytes
token_in table limit at text = in_bytes (token limit at (typed_text table text))

-- the token at the front of a text that an escape began, in this readtable
abbrev pub escaped_token_in : Table → ℕ → ℕ → List ℕ → ScannedBytes
escaped_token_in table limit at text = in_bytes (escaped_token limit at (typed_text table text))
