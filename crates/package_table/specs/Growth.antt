-- What every call that writes keeps, and what its answer says of a change.
use Rattle.std.specs.Prelude.{◌≡◌, ◌≢◌, ◌⊎◌, Bool, true, false}
use Rattle.std.specs.FinMap as finite
use Rattle.package_table.specs.Table.{Name, Table, IsPackage, IsPresent, IsExternal, Uses}
use Rattle.package_table.specs.Lookup.{home_by_name, external_home}

-- no package, no home of a present symbol, no external name and no use is lost
pub record Grows (t u : Table) : Type 0 where
  pub packages : (p : Name) → IsPackage t p → IsPackage u p
  pub homes : (p n h : Name) → IsPresent t p n h → IsPresent u p n h
  pub externals : (p n : Name) → IsExternal t p n → IsExternal u p n
  pub uses : (p q : Name) → Uses t p q → Uses u p q

-- the packages are the same, and every name but n in p finds what it found
pub record IsSameBut (t u : Table) (p n : Name) : Type 0 where
  pub packages : (q : Name) → finite.contains_key u q ≡ finite.contains_key t q
  pub finds : (q m : Name) → (q ≢ p) ⊎ (m ≢ n) → home_by_name u q m ≡ home_by_name t q m
  pub externals : (q m : Name) → (q ≢ p) ⊎ (m ≢ n) → external_home u q m ≡ external_home t q m

-- a call that left the second table of the first tells whether they differ
abbrev pub TellsOfChange : Bool → Table → Table → Type 0
TellsOfChange true t u = u ≢ t
TellsOfChange false t u = u ≡ t
