-- Which symbols a world needs. All symbols of COMMON-LISP and of KEYWORD are external, and so needed: those that name readtables and
-- macro functions are among them.
use Rattle.std.specs.Prelude.{Bool, false, not, ◌&&◌, ◌||◌, List, ◌∷◌, ◌++◌, bytes_eq}
use Rattle.std.specs.List.{list_any, flat_map}
use Rattle.std.specs.Option.{option_map_or}
use Rattle.std.specs.FinMap as finite
use Rattle.lisp_object.specs.Object.{Object}
use Rattle.package_table.specs.Symbols.{symbols}
use Rattle.package_table.specs.Table.{Name, Table, entry_at}
use Rattle.package_table.specs.Lookup.{is_external}
use Rattle.package_table.specs.Readers.{package_names}
use Rattle.plist_state.specs.Properties.{Symbol, Plist, Properties, list_at, same_symbol}
use Rattle.plist_state.specs.State.{WorldState}

-- whether a symbol is one of these
abbrev pub stands_among : Symbol → List Symbol → Bool
stands_among x xs = list_any (same_symbol x) xs

-- the symbols in a property list: its indicators, and those in its values
abbrev pub plist_symbols : Plist → List Symbol
plist_symbols ps = flat_map (λ (p : Symbol × Object). p.0 ∷ symbols p.1) ps

-- the symbols that have properties, each with those in its list
abbrev pub property_symbols : Properties → List Symbol
property_symbols m = flat_map (λ (x : Symbol). x ∷ plist_symbols (list_at m x)) (finite.keys m)

-- a symbol is present in p
abbrev pub has_symbol : Table → Symbol → Name → Bool
has_symbol t x p = option_map_or (λ e. bytes_eq e.home x.0) (entry_at t p x.1) false

-- it is present in another package than its home
abbrev pub is_imported : Table → Symbol → Bool
is_imported t x = list_any (λ p. not (bytes_eq p x.0) && has_symbol t x p) (package_names t)

-- A symbol is needed if it is external in its home, if a package imports it, if it is one of those that are held in any case, or if it
-- stands in the property lists: it has properties, is an indicator, or is in a value.
unfoldable pub is_needed : List Symbol → WorldState → Symbol → Bool
is_needed held s x = is_external s.packages x.0 x.1 || (is_imported s.packages x || stands_among x (held ++ property_symbols s.properties))
