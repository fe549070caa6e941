-- Property lists by the numbers of symbols, and how they are those of the symbols.
use Rattle.std.specs.Prelude.{◌≡◌, ℕ, Bool, ◌==◌, false, IsTrue, All, List, [], ◌∷◌, map, Option, Some, option_map, option_and_then, unwrap_or}
use Rattle.std.specs.Option.{option_map_or}
use Rattle.std.specs.List.{filter_map, find, flat_map}
use Rattle.std.specs.Ordering.{nat_cmp}
use Rattle.std.specs.FinMap as finite
use Rattle.lisp_object.specs.Object.{Object}
use Rattle.package_table.specs.Table.{Table}
use Rattle.package_table.specs.Numbers.{Numbered, number_of}
use Rattle.package_table.specs.Readers.{package_names, own_names}
use Rattle.plist_state.specs.Properties.{Symbol, Plist, Properties, value_beside, with_value_by, without_value_by}

-- a property list by numbers: each indicator is the number of a symbol
abbrev pub NumberedPlist : Type 0
NumberedPlist = List (ℕ × Object)

-- whether two numbers are one
abbrev pub same_number : ℕ → ℕ → Bool
same_number i j = i == j

-- the property lists of the symbols that have one, by their numbers, each with a property in it
abbrev pub NumberedLists : Type 0
NumberedLists = finite.FinMap nat_cmp NumberedPlist

-- the property list of the symbol of a number
abbrev pub plist_of_number : NumberedLists → ℕ → NumberedPlist
plist_of_number m i = unwrap_or (finite.get m i) []

-- where the symbol of a number has this list. One with no property has none.
abbrev pub with_row : NumberedLists → ℕ → NumberedPlist → NumberedLists
with_row m i [] = finite.remove m i
with_row m i (p ∷ ps) = finite.insert m i (p ∷ ps)

-- the value of a property of the symbol of a number
abbrev pub value_in : NumberedLists → ℕ → ℕ → Option Object
value_in m i j = value_beside same_number (plist_of_number m i) j

-- the lists in which number i has the value v beside the indicator j
abbrev pub with_value_in : NumberedLists → ℕ → ℕ → Object → NumberedLists
with_value_in m i j v = with_row m i (with_value_by same_number (plist_of_number m i) j v)

-- without the indicator and its value
abbrev pub without_value_in : NumberedLists → ℕ → ℕ → NumberedLists
without_value_in m i j = with_row m i (without_value_by same_number (plist_of_number m i) j)

-- all symbols, by the names of their homes and then by their own
abbrev pub symbols : Table → List Symbol
symbols t = flat_map (λ p. map (λ n. (p, n)) (own_names t p)) (package_names t)

-- whether this is the number of the symbol
abbrev pub has_number : Numbered → ℕ → Symbol → Bool
has_number s i x = option_map_or (same_number i) (number_of s x.0 x.1) false

-- the symbol of a number, and one with empty names where there is none
unfoldable pub numbered_symbol : Numbered → ℕ → Symbol
numbered_symbol s i = unwrap_or (find (has_number s i) (symbols s.0)) ([], [])

-- this is the number of a symbol
abbrev pub IsNumber : Numbered → ℕ → Type 0
IsNumber s i = number_of s (numbered_symbol s i).0 (numbered_symbol s i).1 ≡ Some i

-- the property list by the symbols of its indicators
abbrev pub named_plist : Numbered → NumberedPlist → Plist
named_plist s ps = map (λ p. (numbered_symbol s p.0, p.1)) ps

-- the property list of a symbol, if it has one
abbrev pub property_list_of : Numbered → NumberedLists → Symbol → Option Plist
property_list_of s m x = option_map (named_plist s) (option_and_then (finite.get m) (number_of s x.0 x.1))

-- the property lists by their symbols
abbrev pub lists : Numbered → NumberedLists → Properties
lists s m = finite.from_entries (filter_map (λ x. option_map (λ ps. (x, ps)) (property_list_of s m x)) (symbols s.0))

-- each number that has a list is that of a symbol, and so is each indicator in it
pub record AreListsOfSymbols (s : Numbered) (m : NumberedLists) : Type 0 where
  pub owners : (i : ℕ) → IsTrue (finite.contains_key m i) → IsNumber s i
  pub indicators : (i : ℕ) → All (λ p. IsNumber s p.0) (plist_of_number m i)
