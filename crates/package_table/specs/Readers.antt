-- What the lists of the packages, of a package's uses and of its symbols hold, each in the order of its bytes.
use Rattle.std.specs.Prelude.{not, List, [], map, filter, bytes_eq}
use Rattle.std.specs.Option.{option_map_or}
use Rattle.std.specs.Borrow.{Bor}
use Rattle.std.specs.FinMap as finite
use Rattle.package_table.specs.declared.error.PackageError.{PackageError}
use Rattle.package_table.specs.declared.error.PackageError.TheVariants.{NoSuchPackage, OutOfMemory}
use Rattle.package_table.specs.Table.{Name, Present, Table, IsPackage, entry_at}

-- names as the packages have them
abbrev pub names_of : List (Bor Name) → List Name
names_of names = map (λ n. n.now) names

-- the names of the packages
abbrev pub package_names : Table → List Name
package_names t = finite.keys t

-- the packages that p uses
abbrev pub used_names : Table → Name → List Name
used_names t p = option_map_or (λ k. finite.keys k.uses) (finite.get t p) []

-- the names that are present in p, and what is there
abbrev pub present_symbols : Table → Name → List (Name × Present)
present_symbols t p = option_map_or (λ k. finite.entries k.symbols) (finite.get t p) []

-- the names of those at home in p
abbrev pub own_among : Name → List (Name × Present) → List Name
own_among p es = map (λ s. s.0) (filter (λ s. bytes_eq s.1.home p) es)

-- the names of those that are external
abbrev pub external_among : List (Name × Present) → List Name
external_among es = map (λ s. s.0) (filter (λ s. s.1.external) es)

-- the names of those with another home than p, each with that home
abbrev pub imported_among : Name → List (Name × Present) → List (Name × Name)
imported_among p es = map (λ s. (s.0, s.1.home)) (filter (λ s. not (bytes_eq s.1.home p)) es)

-- the names at home in p, those external in p, and those present in p with another home
abbrev pub own_names : Table → Name → List Name
own_names t p = own_among p (present_symbols t p)

-- the names that are external in a package
abbrev pub external_names : Table → Name → List Name
external_names t p = external_among (present_symbols t p)

-- the symbols of other packages that are present in a package
abbrev pub imports : Table → Name → List (Name × Name)
imports t p = imported_among p (present_symbols t p)

-- the home of the symbol that is present in p by the name n
abbrev pub home_at : Table → Name → Name → Name
home_at t p n = option_map_or (λ e. e.home) (entry_at t p n) []

-- why a list of p is not given
abbrev pub ListRefused : Table → Name → PackageError → Type 0
ListRefused t p NoSuchPackage = ¬ (IsPackage t p)
ListRefused t p OutOfMemory = IsPackage t p
ListRefused t p _ = ⊥
