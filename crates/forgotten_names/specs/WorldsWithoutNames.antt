-- A world without the names that nothing needs: what is left after FORGET-NAMES.
use Rattle.std.specs.Prelude.{Bool, not, ◌||◌, List, map, filter}
use Rattle.std.specs.FinMap as finite
use Rattle.package_table.specs.Table.{Name, Package, Table}
use Rattle.package_table.specs.Lookup.{is_symbol}
use Rattle.plist_state.specs.Lists.{symbols}
use Rattle.plist_state.specs.Properties.{Symbol}
use Rattle.plist_state.specs.State.{WorldState}
use Rattle.forgotten_names.specs.NeededSymbols.{is_needed}

-- the package p with those of its names that are kept
abbrev pub kept_package : (Name → Name → Bool) → Name → Package → Package
kept_package keep p k = record k { symbols = finite.retain_keys k.symbols (keep p) }

-- packages with the names that are kept in each
unfoldable pub kept_packages : (Name → Name → Bool) → Table → Table
kept_packages keep t = finite.from_entries (map (λ (e : Name × Package). (e.0, kept_package keep e.0 e.1)) (finite.entries t))

module _ (held : List Symbol) where
  -- The package p keeps a name of a symbol that has another home, and of a symbol of its own that is needed.
  abbrev pub is_kept : WorldState → Name → Name → Bool
  is_kept s p n = not (is_symbol s.packages p n) || is_needed held s (p, n)

  -- the world without the symbols that it does not need
  abbrev pub without_unneeded_symbols : WorldState → WorldState
  without_unneeded_symbols s = record s { packages = kept_packages (is_kept s) s.packages }

  -- the symbols that the world does not need, in the order of their homes and then of their names
  abbrev pub forgettable : WorldState → List Symbol
  forgettable s = filter (λ x. not (is_needed held s x)) (symbols s.packages)
