-- Readtables (standard 2.1.1, 23.2): a case, and for each character its syntax type, its reader macro function and its
-- dispatch table.
use Rattle.std.specs.Prelude.{ℕ, ◌==◌, if◌then◌else◌, List, [], ◌∷◌, map, get_or, Option, Some, None}
use Rattle.std.specs.List.{range_with_len}
use Rattle.std.specs.Char.{char_set_contains}
use Rattle.readtable_core.specs.declared.characters.Syntax.{Syntax}
use Rattle.readtable_core.specs.declared.characters.Syntax.TheVariants.{Invalid}
use Rattle.readtable_core.specs.declared.table.Case.{Case}
use Rattle.readtable_core.specs.declared.table.Case.TheVariants.{Upcase}
use Rattle.readtable_core.specs.Characters.{upper_case, standard_syntax}
use Rattle.readtable_core.specs.Names.{std_list, std_close, std_quote, std_comment, std_string, std_out, std_char, std_function, std_vector, std_uninterned, std_block, std_binary, std_octal, std_hex, std_radix}
use Rattle.readtable_core.specs.Names.{dispatch_name}

-- What is at one character. The dispatch table is the list of the functions of the sub-characters 0 to 127 at a
-- dispatching character, and empty elsewhere.
pub record CharacterEntry : Type 0 where
  pub syntax : Syntax
  pub function : Option (List ℕ)
  pub dispatch : List (Option (List ℕ))

-- the entries of the characters 0 to 127, in order
pub record Table : Type 0 where
  pub letters : Case
  pub entries : List CharacterEntry

-- what is beyond 127
abbrev pub no_entry : CharacterEntry
no_entry = record { syntax = Invalid; function = None; dispatch = [] }

-- the entry of a character; of a number beyond 127 one that is invalid
abbrev pub entry_at : Table → ℕ → CharacterEntry
entry_at table c = get_or table.entries c no_entry

-- the function at the sub-character, which is taken in upper case
abbrev pub dispatch_at : Table → ℕ → ℕ → Option (List ℕ)
dispatch_at table c sub = get_or (entry_at table c).dispatch (upper_case sub) None

-- The functions of the macro characters of the standard readtable: 34 the double quote, 35 #, 39 the quote, 40 and 41 the
-- parentheses, 59 the semicolon, 44 and 96 comma and backquote.
abbrev pub standard_function : ℕ → Option (List ℕ)
standard_function c =
    if c == 34 then Some std_string
    else (if c == 35 then Some dispatch_name
    else (if c == 39 then Some std_quote
    else (if c == 40 then Some std_list
    else (if c == 41 then Some std_close
    else (if c == 59 then Some std_comment
    else (if c == 44 then Some std_out
    else (if c == 96 then Some std_out
    else None)))))))

-- the sub-characters of # that are outside the profile: = # + - . * A C P S
abbrev pub standard_out : List ℕ
standard_out = 61 ∷ 35 ∷ 43 ∷ 45 ∷ 46 ∷ 42 ∷ 65 ∷ 67 ∷ 80 ∷ 83 ∷ []

-- The functions of the sub-characters of # in the standard readtable: 92 the backslash, 39 the quote, 40 the parenthesis,
-- 58 the colon, 124 the bar, and the letters B, O, X and R.
abbrev pub standard_sub_function : ℕ → Option (List ℕ)
standard_sub_function sub =
    if sub == 92 then Some std_char
    else (if sub == 39 then Some std_function
    else (if sub == 40 then Some std_vector
    else (if sub == 58 then Some std_uninterned
    else (if sub == 124 then Some std_block
    else (if sub == 66 then Some std_binary
    else (if sub == 79 then Some std_octal
    else (if sub == 88 then Some std_hex
    else (if sub == 82 then Some std_radix
    else (if char_set_contains standard_out sub then Some std_out
    else None)))))))))

-- the functions at the sub-characters of a character in the standard readtable
abbrev pub standard_dispatch : ℕ → List (Option (List ℕ))
standard_dispatch c = if c == 35 then map standard_sub_function (range_with_len 0 128) else []

-- what the standard readtable has at a character
abbrev pub standard_entry : ℕ → CharacterEntry
standard_entry c = record { syntax = standard_syntax c; function = standard_function c; dispatch = standard_dispatch c }

-- the standard readtable; its entry at each character is `standard_entry` (`standard_at` of proofs/Standard.antt)
unfoldable pub standard : Table
standard = record { letters = Upcase; entries = map standard_entry (range_with_len 0 128) }
