-- A world while it is built from the text of a state: it has the packages of the state first, then its properties, and then
-- its readtables.
use Rattle.std.specs.Prelude.{ℕ, ◌≡◌, ◌<◌, ◌||◌, ◌&&◌, not, nat_le, true, false, [], ◌∷◌, length, Some, IsTrue, IsFalse}
use Rattle.std.specs.List.{list_all}
use Rattle.std.specs.Str.{bytes_eq}
use Rattle.std.specs.FinMap as finite
use Rattle.readtable_core.specs.Characters.{is_lower_case, is_digit}
use Rattle.readtable_core.specs.Names.{is_function_name, is_dispatch_name}
use Rattle.readtable_core.specs.Tables as readtable
use Rattle.readtable_core.specs.Tables.{CharacterEntry}
use Rattle.readtable_core.specs.Sound.{IsCharacterEntry}
use Rattle.readtable_core.specs.NamedFunctions.{functions_at}
use Rattle.package_table.specs.Table as packages
use Rattle.package_table.specs.Table.{Name, keyword}
use Rattle.package_table.specs.Lookup.{is_symbol}
use Rattle.plist_state.specs.Properties.{Symbol, Plist, Properties}
use Rattle.plist_state.specs.State.{Readtables, WorldState, initial, standard_name}
use Rattle.plist_state.specs.Changes.{with_property, with_packages}
use Rattle.plist_state.specs.Sound.{IsSymbol}

-- the world with these property lists, and all else as it was
abbrev pub with_properties : WorldState → Properties → WorldState
with_properties s m = record s { properties = m }

-- with each of these properties of a symbol set, one after the other
abbrev pub with_each : WorldState → Symbol → Plist → WorldState
with_each s x [] = s
with_each s x (p ∷ ps) = with_each (with_property s x p.0 p.1) x ps

-- the world with this readtable under the name n
abbrev pub with_table : WorldState → Name → readtable.Table → WorldState
with_table s n t = record s { readtables = finite.insert s.readtables n t }

-- the first state, with the packages of another one
abbrev pub built_with_packages : WorldState → WorldState
built_with_packages s = with_packages initial s.packages

-- the first state, with the packages and the property lists of another one
abbrev pub built_with_properties : WorldState → WorldState
built_with_properties s = with_properties (built_with_packages s) s.properties

-- the first state, with the packages, the property lists and the readtables of another one
abbrev pub built_with_readtables : WorldState → WorldState
built_with_readtables s = record (built_with_properties s) { readtables = s.readtables }

-- a readtable of this name may be made from the standard one, which is as ever
pub record CanBeMade (m : Readtables) (n : Name) : Type 0 where
  pub other : bytes_eq n standard_name ≡ false
  pub standard : finite.get m standard_name ≡ Some readtable.standard
  pub room : not (finite.contains_key m n) && nat_le 64 (finite.len m) ≡ false

-- a readtable that is there and may be written, beside the standard one, which is as ever
pub record IsWritable (m : Readtables) (n : Name) (t : readtable.Table) : Type 0 where
  pub there : finite.get m n ≡ Some t
  pub other : bytes_eq n standard_name ≡ false
  pub count : length t.entries ≡ 128
  pub standard : finite.get m standard_name ≡ Some readtable.standard

-- an entry whose functions are named by keywords
pub record IsNamedEntry (t : packages.Table) (e : CharacterEntry) : Type 0 where
  pub entry : IsCharacterEntry e
  pub functions : list_all (is_symbol t keyword) (functions_at e) ≡ true

-- a function that a sub-character may be given in a dispatch table
pub record IsSubFunction (t : packages.Table) (sub : ℕ) (f : Name) : Type 0 where
  pub character : sub < 128
  pub upper : is_lower_case sub || is_digit sub ≡ false
  pub name : IsTrue (is_function_name f)
  pub other : IsFalse (is_dispatch_name f)
  pub named : IsSymbol t (keyword, f)
