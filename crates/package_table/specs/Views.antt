-- What contracts see of the packages.
use Rattle.std.specs.Prelude.{◌≡◌, List, [], ◌∷◌, map, length}
use Rattle.std.specs.List.{AllByRecursion}
use Rattle.package_sets.specs.declared.sizes.Sizes.{Sizes}
use Rattle.package_sets.specs.KeptSets.{Kept, cut, sizes_of, AreUpTo}
use Rattle.package_sets.specs.Consistent.{IsGood}
use Rattle.package_table.specs.declared.packages.Packages.TheInside.{Inside}
use Rattle.package_table.specs.Table.{AreSoundPackages, symbol_count}
use Rattle.package_table.specs.Numbers.{Numbered, Tables}
pub use Rattle.package_table.specs.KeptTrees.{as_map}
use Rattle.package_table.specs.Meaning.{numbered_of}
use Rattle.package_table.specs.Adds.{HasFixedNumbers}

-- the tables of what was kept at these marks
abbrev pub tables_at : List Sizes → Kept → List Numbered
tables_at ns k = map (λ n. numbered_of (cut n k)) ns

-- the tables that the program keeps, as the logic has them
abbrev pub tables_of : Inside → Tables
tables_of a = ((numbered_of a.sets).0, record { numbers = (numbered_of a.sets).1; marked = tables_at a.marks.items a.sets })

-- sound packages, whose symbols are counted
pub record IsState (k : Kept) : Type 0 where
  pub good : IsGood k
  pub sound : AreSoundPackages (numbered_of k).0
  pub counted : length k.symbols ≡ symbol_count (numbered_of k).0
  pub placed : HasFixedNumbers k

-- what was kept then can be had by a cut, and was such a state
pub record IsMark (k : Kept) (n : Sizes) : Type 0 where
  pub fits : AreUpTo n (sizes_of k)
  pub state : IsState (cut n k)

-- no more was kept at a mark than at those after it
abbrev pub IsRising : List Sizes → Type 0
IsRising [] = Unit {0}
IsRising (n ∷ ns) = AllByRecursion (AreUpTo n) ns × IsRising ns

-- what holds of each table that the program keeps
pub record HasKeptTable (a : Inside) : Type 0 where
  pub state : IsState a.sets
  pub marked : AllByRecursion (IsMark a.sets) a.marks.items
  pub rising : IsRising a.marks.items
