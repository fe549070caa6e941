-- The external symbols of a name in the packages that another uses.
use Rattle.std.specs.Prelude.{◌≡◌, ◌<◌, ℕ, true, is_some, length, position}
use Rattle.package_sets.specs.KeptSets.{Kept, pair_at, pair_eq}
use Rattle.package_sets.specs.SymbolChains.{external_name}
use Rattle.package_sets.specs.declared.look_ups.Inherited.{Inherited}
use Rattle.package_sets.specs.declared.look_ups.Inherited.TheVariants.{External, Nothing, Unknown}

-- x is an external symbol with the name j, in a package that p uses
pub record IsInheritedSymbol (k : Kept) (p j x : ℕ) : Type 0 where
  pub external : x < length k.externals
  pub named : external_name k.symbols k.externals x ≡ j
  pub used : is_some (position (pair_eq (p, (pair_at k.externals x).0)) k.uses) ≡ true

-- what a search says of them
abbrev pub TellsInherited : Kept → ℕ → ℕ → Inherited → Type 0
TellsInherited k p j (External x) = IsInheritedSymbol k p j x
TellsInherited k p j Nothing = (x : ℕ) → IsInheritedSymbol k p j x → ⊥
TellsInherited k p j Unknown = Unit {0}
