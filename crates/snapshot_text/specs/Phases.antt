-- What is there, phase by phase, while the packages of a world are made from those of a snapshot: first all packages with the
-- symbols at home in them, then what they import, what is external and what they use.
use Rattle.std.specs.Prelude.{◌≡◌, ◌≢◌, ◌<◌, ℕ, not, List, [], map, filter, length, bytes_eq, slice_index_or}
use Rattle.package_table.specs.Table.{Name, Table, common_lisp, IsPackage, IsPresent, IsExternal, Uses, AreSoundPackages}
use Rattle.package_table.specs.Readers.{package_names, used_names, imports}
use Rattle.snapshot_text.specs.declared.package_parts.PackageParts.{PackageParts}
use Rattle.world_text.specs.Snapshot.{made_names, shown_names}
use Rattle.snapshot_lines.specs.QuotedTexts.{unescaped, unescaped_pair}
use Rattle.snapshot_text.specs.Part.{IsPartOf}

-- t has the package p, with the symbols that are at home there in s
pub record HasOwn (t s : Table) (p : Name) : Type 0 where
  pub there : IsPackage t p
  pub names : (n : Name) → IsPresent s p n p → IsPresent t p n p

-- a name and the home, another one, of a symbol that is present in p
abbrev pub IsImport : Table → Name → Name × Name → Type 0
IsImport t p r = IsPresent t p r.0 r.1 × (r.1 ≢ p)

-- a name that is present in p from this home
abbrev pub HasImport : Table → Name → Name × Name → Type 0
HasImport t p r = IsPresent t p r.0 r.1

-- t has in p all symbols that are present there in s
pub record HasSymbols (t s : Table) (p : Name) : Type 0 where
  pub names : (n h : Name) → IsPresent s p n h → IsPresent t p n h

-- what is external in p of s is so in t
pub record HasExternals (t s : Table) (p : Name) : Type 0 where
  pub names : (n : Name) → IsExternal s p n → IsExternal t p n

-- what p uses in s it uses in t
pub record HasUses (t s : Table) (p : Name) : Type 0 where
  pub names : (q : Name) → Uses s p q → Uses t p q

-- t is a part of s, and has its packages with their own symbols
pub record HasItsPackages (t s : Table) : Type 0 where
  pub sound : AreSoundPackages s
  pub part : IsPartOf t s
  pub own : (q : Name) → IsPackage s q → HasOwn t s q

-- a row that says of p what s has
pub record IsRowOf (s : Table) (p : Name) (row : PackageParts) : Type 0 where
  pub name : unescaped row.name.now ≡ p
  pub used : map (λ b. unescaped b.now) row.used.items ≡ used_names s p
  pub own : map (λ b. unescaped b.now) row.own.items ≡ made_names s p
  pub shown : map (λ b. unescaped b.now) row.shown.items ≡ shown_names s p
  pub imported : map unescaped_pair row.imported.items ≡ imports s p

-- the packages of s but COMMON-LISP, in the order of their names
abbrev pub other_packages : Table → List Name
other_packages s = filter (λ p. not (bytes_eq p common_lisp)) (package_names s)

-- these are rows of the first so many packages of s but COMMON-LISP, in the order of their names
pub record AreFirstRows (s : Table) (count : ℕ) (rows : List PackageParts) : Type 0 where
  pub long : length rows ≡ count
  pub each : (i : ℕ) (row : PackageParts) → i < length rows → IsRowOf s (slice_index_or (other_packages s) i []) (slice_index_or rows i row)

-- these are rows of all packages of s but COMMON-LISP
abbrev pub AreRowsOf : Table → List PackageParts → Type 0
AreRowsOf s rows = AreFirstRows s (length (other_packages s)) rows

-- this is so of each package of s
abbrev pub InEachPackage : Table → (Name → Type 0) → Type 0
InEachPackage s P = (p : Name) → IsPackage s p → P p
