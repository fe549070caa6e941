-- Symbols that are marked in a list by their numbers.
use Rattle.std.specs.Prelude.{◌≡◌, Bool, false, ◌||◌, List, map, slice_index_or}
use Rattle.std.specs.List.{flat_map}
use Rattle.std.specs.Option.{option_map_or}
use Rattle.package_table.specs.Numbers.{Numbered, number_of}
use Rattle.package_table.specs.Readers.{imports, package_names}
use Rattle.plist_state.specs.Properties.{Symbol}
use Rattle.plist_state.specs.Sound.{IsSymbol}
use Rattle.plist_state.specs.State.{WorldState}
use Rattle.forgotten_names.specs.NeededSymbols.{stands_among, property_symbols}

-- the mark of a symbol
abbrev pub is_marked : Numbered → List Bool → Symbol → Bool
is_marked s marks x = option_map_or (λ i. slice_index_or marks i false) (number_of s x.0 x.1) false

-- of the symbols that are there, these are marked too
pub record AddsMarks (s : Numbered) (old new : List Bool) (xs : List Symbol) : Type 0 where
  pub marked : (x : Symbol) → IsSymbol s.0 x → is_marked s new x ≡ (stands_among x xs || is_marked s old x)

-- these are marked, and no others: what packages import, what stands in the property lists, and what is held
pub record AreMarksOfNeeded (held : List Symbol) (s : WorldState) (n : Numbered) (marks : List Bool) : Type 0 where
  pub marked : (x : Symbol) → IsSymbol n.0 x
      → is_marked n marks x ≡ (stands_among x (flat_map (λ p. map (λ r. (r.1, r.0)) (imports n.0 p)) (package_names n.0))
      || (stands_among x (property_symbols s.properties) || (stands_among x held || false)))
