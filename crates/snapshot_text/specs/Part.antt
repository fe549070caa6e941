-- When packages are a part of others, as those of a world are of the packages of a snapshot while it is made from it.
use Rattle.std.specs.Prelude.{◌≡◌, true, Some}
use Rattle.package_table.specs.Table.{Name, Table, Present, IsPackage, Uses, entry_at}

-- an entry is as far as another: it is of the same symbol, which is external there too where it is so here
pub record IsAsFar (e f : Present) : Type 0 where
  pub home : e.home ≡ f.home
  pub external : e.external ≡ true → f.external ≡ true

-- each package of t is one of s, what is present there is present in s and what is external there is so in s, and what it uses
-- it uses in s
pub record IsPartOf (t s : Table) : Type 0 where
  pub packages : (p : Name) → IsPackage t p → IsPackage s p
  pub symbols : (p n : Name) (e : Present) → entry_at t p n ≡ Some e → (f : Present) × (entry_at s p n ≡ Some f) × IsAsFar e f
  pub uses : (p q : Name) → Uses t p q → Uses s p q
