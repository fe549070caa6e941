-- What every call keeps that adds to the kept lists.
use Rattle.std.specs.Prelude.{◌≡◌, ℕ, [], length, position, bytes_eq, Some, None}
use Rattle.package_sets.specs.declared.sizes.Sizes.{Sizes}
use Rattle.package_sets.specs.KeptSets.{Kept, cut, pair_at, pair_eq, sizes_of, AreUpTo}
use Rattle.package_sets.specs.Consistent.{IsGood}
use Rattle.package_table.specs.Table.{Name, common_lisp, keyword}
use Rattle.package_table.specs.Meaning.{number_in}

-- COMMON-LISP and KEYWORD are the packages 0 and 1; what a package has as external it has by its name; and nothing is imported
-- by a name of which there is a symbol at home.
pub record HasFixedNumbers (k : Kept) : Type 0 where
  pub lisp_first : position (bytes_eq common_lisp) k.packages ≡ Some 0
  pub keyword_second : position (bytes_eq keyword) k.packages ≡ Some 1
  pub shown : (p i x : ℕ) → position (pair_eq (p, i)) k.externals ≡ Some x → number_in k p (pair_at k.symbols i).1 ≡ Some i
  pub apart : (p j x : ℕ) → position (pair_eq (p, j)) k.imports ≡ Some x → position (pair_eq (p, j)) k.symbols ≡ None

-- What is kept is good, packages, names and symbols keep their numbers, and what was kept earlier is still to be had by a cut
pub record Adds (k u : Kept) : Type 0 where
  pub good : IsGood u
  pub packages : (P : Name) (p : ℕ) → position (bytes_eq P) k.packages ≡ Some p → position (bytes_eq P) u.packages ≡ Some p
  pub names : (N : Name) (j : ℕ) → position (bytes_eq N) k.names ≡ Some j → position (bytes_eq N) u.names ≡ Some j
  pub numbers : (p j i : ℕ) → number_in k p j ≡ Some i → number_in u p j ≡ Some i
  pub placed : HasFixedNumbers k → HasFixedNumbers u
  pub fits : (n : Sizes) → AreUpTo n (sizes_of k) → AreUpTo n (sizes_of u)
  pub cuts : (n : Sizes) → AreUpTo n (sizes_of k) → cut n u ≡ cut n k

-- something is added, and no symbol is made
abbrev pub AddsNoSymbol : Kept → Kept → Type 0
AddsNoSymbol k u = Adds k u × (length u.symbols ≡ length k.symbols)

-- nothing is kept but packages
pub record HasNothing (k : Kept) : Type 0 where
  pub names : k.names ≡ []
  pub symbols : k.symbols ≡ []
  pub imports : k.imports ≡ []
  pub externals : k.externals ≡ []
  pub uses : k.uses ≡ []
