-- The state of a world: its packages, the property lists, the readtables by name, which package and which readtable are
-- current, and in which base numbers are read.
use Rattle.std.specs.Prelude.{ℕ, List, codes}
use Rattle.std.specs.FinMap as finite
use Rattle.readtable_core.specs.Tables as readtable
use Rattle.package_table.specs.Table as packages
use Rattle.package_table.specs.Table.{Name, name_cmp}
use Rattle.plist_state.specs.Properties.{Properties}

-- readtables by their names, which are names of keywords
abbrev pub Readtables : Type 0
Readtables = finite.FinMap name_cmp readtable.Table

-- what a world has besides its packages
pub record Rest : Type 0 where
  pub properties : Properties
  pub readtables : Readtables
  pub current_package : Name
  pub current_readtable : Name
  -- the base in which tokens are read as numbers (standard 23.1.1, *READ-BASE*)
  pub read_base : ℕ

-- A world, which is all that a store has: packages, properties, readtables, and the names and the base that are current.
pub record WorldState : Type 0 where
  pub packages : packages.Table
  pub properties : Properties
  pub readtables : Readtables
  pub current_package : Name
  pub current_readtable : Name
  pub read_base : ℕ

-- the state with these packages and this rest
abbrev pub state_with : packages.Table → Rest → WorldState
state_with t r =
    record {
      packages = t;
      properties = r.properties;
      readtables = r.readtables;
      current_package = r.current_package;
      current_readtable = r.current_readtable;
      read_base = r.read_base;
    }

-- The state now, and the states that were marked, to which the world can go back.
abbrev pub Worlds : Type 0
Worlds = WorldState × List WorldState

-- the name of the standard readtable, which never changes
abbrev pub standard_name : Name
standard_name = codes "STANDARD"

-- the name of the readtable that is current first
abbrev pub user_name : Name
user_name = codes "USER"

-- the standard readtable, and a copy of it that may be changed
abbrev pub first_readtables : Readtables
first_readtables = finite.insert (finite.insert finite.empty standard_name readtable.standard) user_name readtable.standard

-- the base in which numbers are read first
abbrev pub first_base : ℕ
first_base = 10

-- what the first world has besides its packages: no properties, and the first readtables, package and base
abbrev pub first_rest : Rest
first_rest =
    record {
      properties = finite.empty;
      readtables = first_readtables;
      current_package = packages.common_lisp_user;
      current_readtable = user_name;
      read_base = first_base;
    }

-- the world of a new store: the first packages, the first readtables, and no properties
abbrev pub initial : WorldState
initial = state_with packages.initial first_rest
