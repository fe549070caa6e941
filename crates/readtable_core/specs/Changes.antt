-- The changes of a readtable (standard 23.2): each puts one entry in place of another.
use Rattle.std.specs.Prelude.{ℕ, Bool, not, if◌then◌else◌, List, [], set, replicate, Option, Some, None}
use Rattle.readtable_core.specs.declared.characters.Syntax.{Syntax}
use Rattle.readtable_core.specs.declared.characters.Syntax.TheVariants.{TerminatingMacro, NonTerminatingMacro}
use Rattle.readtable_core.specs.declared.refusal.DispatchRefusal.{DispatchRefusal}
use Rattle.readtable_core.specs.declared.refusal.DispatchRefusal.TheVariants.{NotDispatching, DigitSubcharacter}
use Rattle.readtable_core.specs.Characters.{upper_case, is_digit}
use Rattle.readtable_core.specs.Names.{dispatch_name}
use Rattle.readtable_core.specs.Tables.{CharacterEntry, Table, entry_at}
use Rattle.readtable_core.specs.Sound.{is_dispatching}

-- the table with another entry at a character
abbrev pub with_character_entry : Table → ℕ → CharacterEntry → Table
with_character_entry table c e = record table { entries = set table.entries c e }

-- the table with another entry at a character if the call that puts it succeeded, else as it was
abbrev pub put_if : Bool → Table → ℕ → CharacterEntry → Table
put_if succeeded table c e = if succeeded then with_character_entry table c e else table

-- the syntax type of a macro character
abbrev pub macro_syntax : Bool → Syntax
macro_syntax non_terminating = if non_terminating then NonTerminatingMacro else TerminatingMacro

-- a macro character with this function; what was dispatched there is gone
abbrev pub macro_entry : List ℕ → Bool → CharacterEntry
macro_entry name non_terminating =
    record { syntax = macro_syntax non_terminating; function = Some name; dispatch = [] }

-- a dispatching macro character with no function at any sub-character
abbrev pub dispatching_entry : Bool → CharacterEntry
dispatching_entry non_terminating =
    record { syntax = macro_syntax non_terminating; function = Some dispatch_name; dispatch = replicate 128 None }

-- the entry with this function at the sub-character, which is taken in upper case
abbrev pub with_dispatch_function : CharacterEntry → ℕ → List ℕ → CharacterEntry
with_dispatch_function e sub name = record e { dispatch = set e.dispatch (upper_case sub) (Some name) }

-- why a function cannot be set at the sub-character: the first reason that holds
abbrev pub dispatch_refusal : Table → ℕ → ℕ → Option DispatchRefusal
dispatch_refusal table c sub =
    if not (is_dispatching (entry_at table c)) then Some NotDispatching
    else (if is_digit sub then Some DigitSubcharacter else None)
