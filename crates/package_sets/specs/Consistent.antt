-- What holds of all that is kept.
use Rattle.std.specs.Prelude.{◌≡◌, ℕ, ◌<◌, ◌≤◌, List, length, get_or, bytes_eq}
use Rattle.std.specs.List.{IsDistinct, AllByRecursion}
use Rattle.package_sets.specs.KeptSets.{Kept, Name, pair_at, pair_eq}

-- no name stands twice
abbrev pub AreDistinctNames : List Name → Type 0
AreDistinctNames ns = IsDistinct bytes_eq ns

-- no pair stands twice
abbrev pub AreDistinctPairs : List (ℕ × ℕ) → Type 0
AreDistinctPairs ps = IsDistinct pair_eq ps

-- the first number of each pair is below n, and the second below m
abbrev pub AreWithin : ℕ → ℕ → List (ℕ × ℕ) → Type 0
AreWithin n m ps = AllByRecursion (λ p. (p.0 < n) × (p.1 < m)) ps

-- no list has a thing twice
pub record HasDistinct (k : Kept) : Type 0 where
  pub names : AreDistinctNames k.names
  pub packages : AreDistinctNames k.packages
  pub symbols : AreDistinctPairs k.symbols
  pub imports : AreDistinctPairs k.imports
  pub externals : AreDistinctPairs k.externals
  pub uses : AreDistinctPairs k.uses

-- each number is that of something that is kept
pub record HasNumbersWithin (k : Kept) : Type 0 where
  pub symbols : AreWithin (length k.packages) (length k.names) k.symbols
  pub imports : AreWithin (length k.packages) (length k.names) k.imports
  pub imported : AllByRecursion (λ s. s < length k.symbols) k.imported
  pub externals : AreWithin (length k.packages) (length k.symbols) k.externals
  pub uses : AreWithin (length k.packages) (length k.packages) k.uses

-- a symbol that is imported has the name by which it is
abbrev pub IsImportedByName : Kept → ℕ → Type 0
IsImportedByName k i = (pair_at k.symbols (get_or k.imported i 0)).1 ≡ (pair_at k.imports i).1

-- Things are distinct and their numbers are within; there is a symbol for each import, with the same name; no package uses
-- itself; and there are no more names than symbols.
pub record IsGood (k : Kept) : Type 0 where
  pub distinct : HasDistinct k
  pub within : HasNumbersWithin k
  pub as_many : length k.imported ≡ length k.imports
  pub named : (i : ℕ) → i < length k.imports → IsImportedByName k i
  pub apart : AllByRecursion (λ u. u.0 ≡ u.1 → ⊥) k.uses
  pub few_names : length k.names ≤ length k.symbols
