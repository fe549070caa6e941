-- The forms that make the readtables of a world, in the order of their names: each a copy of the standard one, and then what differs.
use Rattle.std.specs.Prelude.{ℕ, ◌==◌, ◌&&◌, is_none, if◌then◌else◌, List, [], ◌++◌, codes, Option, Some, None, get_or}
use Rattle.std.specs.List.{find, flat_map, range_with_len}
use Rattle.std.specs.Option.{option_map_or}
use Rattle.std.specs.Str.{bytes_eq}
use Rattle.std.specs.FinMap as finite
use Rattle.readtable_core.specs.declared.characters.Syntax.{Syntax}
use Rattle.readtable_core.specs.declared.characters.Syntax.TheVariants.{NonTerminatingMacro}
use Rattle.readtable_core.specs.declared.table.Case.{Case}
use Rattle.readtable_core.specs.declared.table.Case.TheVariants.{Upcase}
use Rattle.readtable_core.specs.Cases.{case_name}
use Rattle.readtable_core.specs.Characters.{syntax_number}
use Rattle.readtable_core.specs.NamedFunctions.{same_entry}
use Rattle.readtable_core.specs.Names.{is_dispatch_name}
use Rattle.readtable_core.specs.Tables.{Table, CharacterEntry, entry_at, standard}
use Rattle.package_table.specs.Table.{Name, keyword}
use Rattle.plist_state.specs.State.{WorldState, standard_name}
use Rattle.plist_state.specs.Readers.{readtable_names}
use Rattle.world_forms.specs.NameTokens.{world_form_line, value_text, keyword_argument, character_argument}

-- the first character with this syntax type, and without a function, in the standard readtable
unfoldable pub character_of_type : Syntax → Option ℕ
character_of_type syntax =
    find (λ c. syntax_number (entry_at standard c).syntax == syntax_number syntax && is_none (entry_at standard c).function) (range_with_len 0 128)

-- whether a macro character ends tokens, as an argument
abbrev pub kind_argument : Syntax → List ℕ
kind_argument NonTerminatingMacro = codes " T"
kind_argument _ = codes " NIL"

-- the forms of the readtable of this name
module _ (name : Name) where
  -- the name of the readtable, as an argument
  abbrev pub table_argument : List ℕ
  table_argument = codes " " ++ value_text [] [] keyword name

  -- the name of the readtable as the last argument, and the end of the form
  abbrev pub table_end : List ℕ
  table_end = table_argument ++ world_form_line (codes ")")

  -- the form by which a character is as another one in the standard readtable
  unfoldable pub like_line : ℕ → ℕ → List ℕ
  like_line c there = codes "(SET-SYNTAX-FROM-CHAR" ++ character_argument c ++ character_argument there ++ table_argument ++ world_form_line (codes " :STANDARD)")

  -- the form that gives a character a syntax type and no function; nothing, where the standard readtable has no such
  -- character
  unfoldable pub syntax_line : ℕ → Syntax → List ℕ
  syntax_line c syntax = option_map_or (like_line c) (character_of_type syntax) []

  -- the line that makes a character a macro character with a function
  unfoldable pub macro_line : ℕ → List ℕ → Syntax → List ℕ
  macro_line c function syntax =
      codes "(SET-MACRO-CHARACTER" ++ character_argument c ++ keyword_argument function ++ kind_argument syntax ++ table_end

  -- the form that gives a sub-character its function; nothing, where it has none
  unfoldable pub sub_line : ℕ → ℕ → Option (List ℕ) → List ℕ
  sub_line c sub None = []
  sub_line c sub (Some function) =
      codes "(SET-DISPATCH-MACRO-CHARACTER" ++ character_argument c ++ character_argument sub ++ keyword_argument function ++ table_end

  -- the forms that make a character a dispatching one, and give its sub-characters their functions
  unfoldable pub dispatch_lines : ℕ → CharacterEntry → List ℕ
  dispatch_lines c e =
      codes "(MAKE-DISPATCH-MACRO-CHARACTER" ++ character_argument c ++ kind_argument e.syntax ++ table_end
      ++ flat_map (λ sub. sub_line c sub (get_or e.dispatch sub None)) (range_with_len 0 128)

  -- the forms that give a character this entry
  abbrev pub entry_lines : ℕ → CharacterEntry → List ℕ
  entry_lines c e =
      option_map_or (λ function. if is_dispatch_name function then dispatch_lines c e else macro_line c function e.syntax)
      e.function (syntax_line c e.syntax)

  -- the forms that give a character its entry; nothing, where that is as in the standard readtable
  unfoldable pub changed_lines : Table → ℕ → List ℕ
  changed_lines table c = if same_entry (entry_at table c) (entry_at standard c) then [] else entry_lines c (entry_at table c)

  -- the form that gives the readtable the case of this name
  unfoldable pub set_case_line : List ℕ → List ℕ
  set_case_line case = codes "(SETF (READTABLE-CASE" ++ table_argument ++ codes ")" ++ keyword_argument case ++ world_form_line (codes ")")

  -- the form that gives the readtable its case; nothing, where that is as in the standard readtable
  unfoldable pub case_line : Case → List ℕ
  case_line Upcase = []
  case_line letters = set_case_line (case_name letters)

  -- the forms of this readtable: a copy of the standard one, its case, and the characters that differ
  unfoldable pub table_lines : Table → List ℕ
  table_lines table =
      codes "(COPY-READTABLE :STANDARD" ++ table_end ++ case_line table.letters
      ++ flat_map (changed_lines table) (range_with_len 0 128)

module _ (s : WorldState) where
  -- the forms of the readtable of a name; nothing for STANDARD, which never changes
  unfoldable pub named_lines : Name → List ℕ
  named_lines n = if bytes_eq n standard_name then [] else option_map_or (table_lines n) (finite.get s.readtables n) []

  -- the forms of all readtables, in the order of their names
  unfoldable pub readtable_lines : List ℕ
  readtable_lines = flat_map named_lines (readtable_names s)
