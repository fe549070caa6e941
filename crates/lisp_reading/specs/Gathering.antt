-- What the calls of functions gather (standard 2.4, 2.2), where it is no object: characters up to one, a line, a block, a
-- number.
use Rattle.std.specs.Prelude.{ℕ, ◌+◌, ◌-◌, ◌*◌, ◌==◌, ◌&&◌, if◌then◌else◌, nat_le, Bool, true, false, List, [], ◌∷◌, ◌++◌, Option, Some, None, unwrap_or}
use Rattle.lisp_object.specs.declared.refusal.TheConstants.{NUMERIC_ARGUMENT}
use Rattle.readtable_core.specs.Characters.{is_digit}
use Rattle.readtable_core.specs.Tables.{Table, entry_at}
use Rattle.readtable_core.specs.declared.characters.Syntax.{Syntax}
use Rattle.readtable_core.specs.declared.characters.Syntax.TheVariants.{SingleEscape}
use Rattle.lisp_reading.specs.declared.way.Keep.{Keep}
use Rattle.lisp_reading.specs.declared.way.Keep.TheVariants.{Kept, Dropped}
use Rattle.lisp_reading.specs.Plans.{Plan, gives, refuses, takes, character, next_byte}

-- ---- characters up to a terminator, which is looked for first; an escape is dropped, and the next character kept

-- whether it is a single escape
abbrev pub is_escape : Syntax → Bool
is_escape SingleEscape = true
is_escape _ = false

-- A character of a text (standard 2.4.5): the terminator ends it, and after a single escape any character is taken.
abbrev pub text_turn : Table → ℕ → (List ℕ → Plan (List ℕ)) → List ℕ → Plan (List ℕ)
text_turn table terminator more cs = next_byte (λ c.
    elim (c == terminator) [
      | true ↦ gives cs
      | false ↦ elim (is_escape (entry_at table c).syntax) [
        | true ↦ next_byte (λ d. more (cs ++ d ∷ []))
        | false ↦ more (cs ++ c ∷ [])
      ]
    ])

-- ---- characters up to a newline (10), which is taken and dropped, or up to the end of the input

-- the characters that are gathered where this one comes
abbrev pub kept_characters : Keep → List ℕ → ℕ → List ℕ
kept_characters Kept cs c = cs ++ c ∷ []
kept_characters Dropped cs c = cs

-- a character of a line (standard 2.4.4): a newline ends it, and so does the end of the input
abbrev pub line_turn : Keep → (List ℕ → Plan (List ℕ)) → List ℕ → Plan (List ℕ)
line_turn keep more cs =
    takes (gives cs) (λ c. true) (character (λ c. elim (c == 10) [ true ↦ gives cs | false ↦ more (kept_characters keep cs c) ]))

-- ---- a block: up to a bar (124) and # (35) that close it, nested, pairs taken from the left

-- So many blocks are open inside it, and the byte before is the second number, if it may begin a pair. After the next byte it
-- is so; None where that byte closes the block.
abbrev pub block_next : ℕ × ℕ → ℕ → Option (ℕ × ℕ)
block_next (level, last) c =
    if last == 124 && c == 35 then (if level == 0 then None else Some (level - 1, 0))
    else (if last == 35 && c == 124 then Some (level + 1, 0) else Some (level, c))

-- a block goes on where so many blocks are open, and else has ended
abbrev pub block_goes : (ℕ × ℕ → Plan (Unit {0})) → Option (ℕ × ℕ) → Plan (Unit {0})
block_goes more None = gives tt
block_goes more (Some levels) = more levels

-- a character of a block (standard 2.4.8.19)
abbrev pub block_turn : (ℕ × ℕ → Plan (Unit {0})) → ℕ × ℕ → Plan (Unit {0})
block_turn more levels = next_byte (λ c. block_goes more (block_next levels c))

-- ---- the number of a dispatch call, at most 999,999

-- a number with one digit more
abbrev pub next_digit : Option ℕ → ℕ → ℕ
next_digit number c = unwrap_or number 0 * 10 + (c - 48)

-- a digit of the number of a dispatch call (standard 2.4.8), which is 999,999 at most
abbrev pub number_turn : (Option ℕ → Plan (Option ℕ)) → Option ℕ → Plan (Option ℕ)
number_turn more number = takes (gives number) is_digit (λ c.
    elim (nat_le (next_digit number c) 999999) [ true ↦ more (Some (next_digit number c)) | false ↦ refuses NUMERIC_ARGUMENT 1 ])
