-- What holds of the state of every world.
use Rattle.std.specs.Prelude.{◌≡◌, ◌≢◌, ◌≤◌, true, [], ◌∷◌, All, length, IsTrue, Some, None}
use Rattle.std.specs.List.{list_all}
use Rattle.std.specs.FinMap as finite
use Rattle.lisp_object.specs.Object as object
use Rattle.lisp_object.specs.Object.{Object, symbol, uninterned, AllAtoms, object_depth}
use Rattle.readtable_core.specs.Tables as readtable
use Rattle.readtable_core.specs.Sound.{IsReadtable}
use Rattle.readtable_core.specs.NamedFunctions.{functions_of}
use Rattle.package_table.specs.Table as packages
use Rattle.package_table.specs.Table.{Name, IsPackage, IsPresent, keyword}
use Rattle.package_table.specs.Lookup.{is_symbol}
use Rattle.plist_state.specs.Properties.{Symbol, Plist, value_at}
use Rattle.plist_state.specs.State.{Readtables, WorldState, Worlds, standard_name, user_name}

-- a symbol that is present in its home
abbrev pub IsSymbol : packages.Table → Symbol → Type 0
IsSymbol t x = IsPresent t x.0 x.1 x.0

-- an interned symbol is present in its home, and the name of an uninterned one has at most 4,096 characters
abbrev pub IsSymbolStorable : packages.Table → Object → Type 0
IsSymbolStorable t (symbol home name) = IsPresent t home name home
IsSymbolStorable t (uninterned name) = length name ≤ 4096
IsSymbolStorable t _ = Unit {0}

-- a value that may be stored: an object of depth at most 100 whose symbols are there
pub record IsValue (t : packages.Table) (x : Object) : Type 0 where
  pub object : object.IsSound x
  pub depth : object_depth x ≤ 100
  pub symbols : AllAtoms (IsSymbolStorable t) x

-- no indicator stands twice
abbrev pub IsApart : Plist → Type 0
IsApart [] = Unit {0}
IsApart (p ∷ ps) = (value_at ps p.0 ≡ None) × IsApart ps

-- a property list: it has a property, no indicator twice, and each indicator is a symbol and each value may be stored
pub record IsPlist (t : packages.Table) (ps : Plist) : Type 0 where
  pub some : ps ≢ []
  pub apart : IsApart ps
  pub indicators : All (λ p. IsSymbol t p.0) ps
  pub values : All (λ p. IsValue t p.1) ps

-- a readtable whose functions are named by keywords
pub record HasKeywordFunctions (t : packages.Table) (r : readtable.Table) : Type 0 where
  pub readtable : IsReadtable r
  pub functions : list_all (is_symbol t keyword) (functions_of r) ≡ true

-- The standard readtable and USER are there, and at most 64 in all. Each is named by a keyword.
pub record IsReadtables (t : packages.Table) (m : Readtables) : Type 0 where
  pub standard : finite.get m standard_name ≡ Some readtable.standard
  pub user : IsTrue (finite.contains_key m user_name)
  pub count : finite.len m ≤ 64
  pub names : (n : Name) → IsTrue (finite.contains_key m n) → IsSymbol t (keyword, n)
  pub each : (n : Name) (r : readtable.Table) → finite.get m n ≡ Some r → HasKeywordFunctions t r

-- The packages are sound, the symbols that have properties are there, the current names name something, and numbers are
-- read in a base from 2 to 36.
pub record IsSoundWorldState (s : WorldState) : Type 0 where
  pub packages : packages.AreSoundPackages s.packages
  pub symbols : (x : Symbol) → IsTrue (finite.contains_key s.properties x) → IsSymbol s.packages x
  pub properties : (x : Symbol) (ps : Plist) → finite.get s.properties x ≡ Some ps → IsPlist s.packages ps
  pub readtables : IsReadtables s.packages s.readtables
  pub current_package : IsPackage s.packages s.current_package
  pub current_readtable : IsTrue (finite.contains_key s.readtables s.current_readtable)
  pub lowest_base : 2 ≤ s.read_base
  pub highest_base : s.read_base ≤ 36

-- a world is sound where its state is, and each state to which it can go back
pub record IsSoundWorld (w : Worlds) : Type 0 where
  pub present : IsSoundWorldState w.0
  pub marked : All IsSoundWorldState w.1
