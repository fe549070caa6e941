-- The forms of a world: given one after the other to a new store, they make it. They are read under the standard readtable, in base
-- 10, in COMMON-LISP-USER.
use Rattle.std.specs.Prelude.{ℕ, ◌==◌, if◌then◌else◌, List, [], ◌∷◌, ◌++◌, codes, decimal}
use Rattle.std.specs.Option.{option_map_or}
use Rattle.std.specs.FinMap as finite
use Rattle.readtable_core.specs.Characters.{syntax_number}
use Rattle.readtable_core.specs.Tables.{Table, entry_at}
use Rattle.readtable_core.specs.declared.characters.Syntax.TheVariants.{Whitespace}
use Rattle.package_table.specs.Table.{keyword}
use Rattle.plist_state.specs.State.{WorldState}
use Rattle.canon_printer.specs.Written.{printed_text}
use Rattle.session_words.specs.declared.content.Content.{Content}
use Rattle.session_words.specs.declared.content.Content.TheVariants.{World, Data}
use Rattle.world_forms.specs.NameTokens.{world_form_line, value_text}
use Rattle.world_forms.specs.Packages.{package_lines}
use Rattle.world_forms.specs.Properties.{property_lines}
use Rattle.world_forms.specs.Readtables.{readtable_lines}

-- a newline under a readtable, if that discards it
abbrev pub newline_in : Table → List ℕ
newline_in t = if syntax_number (entry_at t 10).syntax == syntax_number Whitespace then 10 ∷ [] else []

module _ (s : WorldState) where
  -- the form that makes the package current
  unfoldable pub package_form : List ℕ
  package_form = codes "(IN-PACKAGE " ++ printed_text s.current_package ++ codes ")"

  -- the form that sets the base of numbers
  unfoldable pub base_form : List ℕ
  base_form = codes "(SETF *READ-BASE* " ++ decimal s.read_base ++ codes ")"

  -- the form that makes the readtable current
  unfoldable pub readtable_form : List ℕ
  readtable_form = codes "(IN-READTABLE " ++ value_text [] [] keyword s.current_readtable ++ codes ")"

  -- the forms for the base and the readtable, each after a space; nothing, where only data are exported
  unfoldable pub reading_forms : Content → List ℕ
  reading_forms World = codes " " ++ base_form ++ codes " " ++ readtable_form
  reading_forms Data = []

  -- One form makes current what is, since the next one would be read under it.
  unfoldable pub current_form : Content → List ℕ
  current_form content = codes "(PROGN " ++ package_form ++ reading_forms content ++ codes ")"

  -- The end of the last line, which is read under the readtable that is then current: a newline, if that has it as whitespace.
  unfoldable pub last_newline : Content → List ℕ
  last_newline World = option_map_or newline_in (finite.get s.readtables s.current_readtable) []
  last_newline Data = 10 ∷ []

  -- the forms of what is exported, with a newline after each
  unfoldable pub forms : Content → List ℕ
  forms World =
      world_form_line (codes "(IN-READTABLE :STANDARD)") ++ package_lines s.packages ++ property_lines s ++ readtable_lines s ++ current_form World
      ++ last_newline World
  forms Data = package_lines s.packages ++ property_lines s ++ current_form Data ++ last_newline Data
