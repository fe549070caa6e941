-- What contracts see of the structs.
use Rattle.std.specs.Prelude.{ℕ, suc, List, [], ◌∷◌, map, Option, Some, None}
use Rattle.std.specs.Global.{Vec}
use Rattle.std.specs.Borrow.{Bor}
use Rattle.std.specs.List.{slice_get}
use Rattle.std.specs.Option.{option_map_or}
use Rattle.std.specs.BTreeMap.{BTreeMap}
use Rattle.std.specs.FinMap as finite
use Rattle.lisp_object.specs.Object.{Object}
use Rattle.lisp_object.specs.Datum.{object_of}
use Rattle.readtable_core.specs.Tables as readtable
use Rattle.package_table.specs.Table.{Name}
use Rattle.package_table.specs.Views.{as_map}
use Rattle.plist_state.specs.declared.symbol.Symbol.{Symbol}
use Rattle.plist_state.specs.declared.symbol.BorrowedSymbol.{BorrowedSymbol}
use Rattle.plist_state.specs.declared.property.Property.{Property}
use Rattle.property_rows.specs.declared.property.NumberedProperty.{NumberedProperty}
use Rattle.plist_state.specs.declared.stored.Stored.{Stored}
use Rattle.property_rows.specs.Rows.{PropertyRow, room}
use Rattle.plist_state.specs.Properties as properties
use Rattle.plist_state.specs.Lists.{NumberedPlist, NumberedLists, with_row}
use Rattle.plist_state.specs.State.{Readtables, first_readtables, first_rest}

-- a symbol of the program, as one of the logic
abbrev pub symbol_of : Symbol → properties.Symbol
symbol_of s = (s.home, s.name)

-- a symbol that is handed in, as one of the logic
abbrev pub symbol_named : BorrowedSymbol → properties.Symbol
symbol_named s = (s.home.now, s.name.now)

-- a property that is handed out, as one of the logic
abbrev pub property_of : Property → properties.Symbol × Object
property_of p = ((p.home.now, p.name.now), object_of p.value.now)

-- a property by the number of its indicator, as one of the logic
abbrev pub numbered_property : NumberedProperty → ℕ × Object
numbered_property p = (p.indicator, object_of p.value)

-- the properties of a row, by the numbers of their indicators
abbrev pub plist_of : PropertyRow → NumberedPlist
plist_of row = map numbered_property row.items

-- the properties of a row that may be absent
abbrev pub items_in : Option (Bor PropertyRow) → List NumberedProperty
items_in None = []
items_in (Some row) = row.now.items

-- the rows of properties: that of the symbol of number n stands at n
abbrev pub Rows : Type 0
Rows = List PropertyRow

-- The property lists in the rows, of which the first is that of number n. An empty row is none.
abbrev pub lists_from : ℕ → Rows → NumberedLists
lists_from n [] = finite.empty
lists_from n (row ∷ rows) = with_row (lists_from (suc n) rows) n (plist_of row)

-- the property lists that the rows keep, by numbers
abbrev pub lists_in : Rows → NumberedLists
lists_in rows = lists_from 0 rows

-- the rows of all symbols, by the numbers of these
abbrev pub lists_of : Vec PropertyRow → NumberedLists
lists_of rows = lists_in rows.items

-- the row of a number
abbrev pub row_at : Rows → ℕ → Option PropertyRow
row_at rows i = slice_get rows i

-- how many properties there is memory for in the row of a number
abbrev pub room_at : Rows → ℕ → ℕ
room_at rows i = option_map_or room (row_at rows i) 0

-- the readtables that a tree keeps, as those of the logic
abbrev pub readtables_of : BTreeMap (Vec ℕ) readtable.Table → Readtables
readtables_of tables = as_map (λ t. t) tables.entries

-- what a world keeps besides its packages: the property lists are by the numbers of their symbols
pub record NumberedRest : Type 0 where
  pub properties : NumberedLists
  pub readtables : Readtables
  pub current_package : Name
  pub current_readtable : Name
  pub read_base : ℕ

-- what the first world has besides its packages, where lists are by numbers
abbrev pub first_numbered : NumberedRest
first_numbered =
    record {
      properties = finite.empty;
      readtables = first_readtables;
      current_package = first_rest.current_package;
      current_readtable = first_rest.current_readtable;
      read_base = first_rest.read_base;
    }

-- all but the packages, by numbers, as the logic has it
abbrev pub rest_of : Stored → NumberedRest
rest_of s =
    record {
      properties = lists_of s.properties;
      readtables = readtables_of s.readtables;
      current_package = s.current_package.items;
      current_readtable = s.current_readtable.items;
      read_base = s.read_base;
    }
