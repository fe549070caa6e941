-- Properties that are sought and set by the names by which a package finds the symbol and the indicator.
use Rattle.std.specs.Prelude.{◌≡◌, List, ℕ, Option, Some}
use Rattle.lisp_object.specs.Object.{Object}
use Rattle.package_table.specs.Lookup.{home_by_name}
use Rattle.package_table.specs.Table.{Name}
use Rattle.plist_state.specs.Changes.{property, with_property}
use Rattle.plist_state.specs.State.{WorldState, Worlds}

-- a package finds symbols by both names, and this is the property of the one under the other
pub record PutsFound (old new : Worlds) (owner symbol indicator : Name) (x : Object) : Type 0 where
  pub home : Name
  pub indicator_home : Name
  pub symbol_found : home_by_name old.0.packages owner symbol ≡ Some home
  pub indicator_found : home_by_name old.0.packages owner indicator ≡ Some indicator_home
  pub puts : new ≡ (with_property old.0 (home, symbol) (indicator_home, indicator) x, old.1)

-- a package finds symbols by both names, and this is the property of the one under the other, if there is one
pub record GetsFound (world : WorldState) (owner symbol indicator : Name) (x : Option Object) : Type 0 where
  pub home : Name
  pub indicator_home : Name
  pub symbol_found : home_by_name world.packages owner symbol ≡ Some home
  pub indicator_found : home_by_name world.packages owner indicator ≡ Some indicator_home
  pub gets : x ≡ property world (home, symbol) (indicator_home, indicator)
