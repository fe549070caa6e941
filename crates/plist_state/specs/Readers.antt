-- The lists that the world gives.
use Rattle.std.specs.Prelude.{List, map}
use Rattle.std.specs.Borrow.{Bor}
use Rattle.std.specs.FinMap as finite
use Rattle.package_table.specs.Table.{Name}
use Rattle.plist_state.specs.Properties.{Symbol}
use Rattle.plist_state.specs.State.{WorldState}

-- a symbol whose home and name are borrowed, and such symbols
abbrev pub borrowed_symbol : Bor Name × Bor Name → Symbol
borrowed_symbol s = (s.0.now, s.1.now)

-- symbols that are handed in, as those of the logic
abbrev pub borrowed_symbols : List (Bor Name × Bor Name) → List Symbol
borrowed_symbols symbols = map borrowed_symbol symbols

-- the names of the readtables, sorted by their bytes
abbrev pub readtable_names : WorldState → List Name
readtable_names s = finite.keys s.readtables

-- the symbols that have properties, sorted by the bytes of their homes and then of their names
abbrev pub symbols_with_properties : WorldState → List Symbol
symbols_with_properties s = finite.keys s.properties
