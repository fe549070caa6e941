-- What holds of every readtable.
use Rattle.std.specs.Prelude.{ℕ, ◌≡◌, Bool, true, false, ◌||◌, IsTrue, IsFalse, if◌then◌else◌, List, length, get_or, Option, Some, None, is_some}
use Rattle.readtable_core.specs.declared.characters.Syntax.{Syntax}
use Rattle.readtable_core.specs.declared.characters.Syntax.TheVariants.{TerminatingMacro, NonTerminatingMacro}
use Rattle.readtable_core.specs.Characters.{is_lower_case, is_digit}
use Rattle.readtable_core.specs.Names.{is_function_name, is_dispatch_name}
use Rattle.readtable_core.specs.Tables.{CharacterEntry, Table, entry_at}

-- whether a character of this type is a macro character
abbrev pub is_macro : Syntax → Bool
is_macro TerminatingMacro = true
is_macro NonTerminatingMacro = true
is_macro _ = false

-- whether a function is the one at a dispatching character
abbrev pub dispatches : Option (List ℕ) → Bool
dispatches None = false
dispatches (Some name) = is_dispatch_name name

-- whether a character dispatches to sub-characters
abbrev pub is_dispatching : CharacterEntry → Bool
is_dispatching e = dispatches e.function

-- a name where there is one
abbrev pub is_none_or_name : Option (List ℕ) → Bool
is_none_or_name None = true
is_none_or_name (Some name) = is_function_name name

-- A function is exactly at macro characters. There are places for sub-characters exactly at dispatching ones; none is
-- filled at a lower-case letter or a digit, and none with STD-DISPATCH. Names are names of functions.
pub record IsCharacterEntry (e : CharacterEntry) : Type 0 where
  pub function : is_some e.function ≡ is_macro e.syntax
  pub places : length e.dispatch ≡ (if is_dispatching e then 128 else 0)
  pub keys : (sub : ℕ) → IsTrue (is_lower_case sub || is_digit sub) → get_or e.dispatch sub None ≡ None
  pub values : (sub : ℕ) → IsFalse (dispatches (get_or e.dispatch sub None))
  pub name : IsTrue (is_none_or_name e.function)
  pub names : (sub : ℕ) → IsTrue (is_none_or_name (get_or e.dispatch sub None))

-- 128 entries, each of which is one
pub record IsReadtable (table : Table) : Type 0 where
  pub count : length table.entries ≡ 128
  pub each : (c : ℕ) → IsCharacterEntry (entry_at table c)
