-- Entries and readtables compared, and the functions that they name.
use Rattle.std.specs.Prelude.{ℕ, Bool, ◌==◌, ◌&&◌, List, ◌∷◌, Option}
use Rattle.std.specs.List.{filter_map, flat_map}
use Rattle.std.specs.Option.{option_eq}
use Rattle.std.specs.Cmp.Lexicographic.{pointwise}
use Rattle.readtable_core.specs.Characters.{syntax_number}
use Rattle.readtable_core.specs.Names.{same_name}
use Rattle.readtable_core.specs.Tables.{CharacterEntry, Table}

-- whether both are no function, or the one of the same name
abbrev pub same_function : Option (List ℕ) → Option (List ℕ) → Bool
same_function = option_eq same_name

-- whether two entries are one: type, function and the whole dispatch table
abbrev pub same_entry : CharacterEntry → CharacterEntry → Bool
same_entry a b =
    syntax_number a.syntax == syntax_number b.syntax
    && (same_function a.function b.function && pointwise same_function a.dispatch b.dispatch)

-- the functions that an entry names: its own, and those of its sub-characters
abbrev pub functions_at : CharacterEntry → List (List ℕ)
functions_at e = filter_map (λ f. f) (e.function ∷ e.dispatch)

-- the functions that a readtable names, character by character
abbrev pub functions_of : Table → List (List ℕ)
functions_of table = flat_map functions_at table.entries
