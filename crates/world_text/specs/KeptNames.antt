-- The text of a state without some of the names that were made in its packages: a test says which stay.
use Rattle.std.specs.Prelude.{ℕ, Bool, List, filter}
use Rattle.package_table.specs.Table.{Name, Table}
use Rattle.plist_state.specs.State.{WorldState}
use Rattle.world_text.specs.Snapshot.{made_names, packages_with, lines_with, tables_object}

module _ (keeps : Name → Name → Bool) where
  -- the names made in a package that stay
  abbrev pub kept_names : Table → Name → List Name
  kept_names t p = filter (keeps p) (made_names t p)

  -- the text with these for the names made in each package. All else of it is that of the state.
  abbrev pub kept_snapshot : WorldState → List ℕ
  kept_snapshot s = lines_with s (packages_with s.packages (kept_names s.packages)) (tables_object s)
