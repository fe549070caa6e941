-- What contracts see of the sets.
use Rattle.package_sets.specs.declared.sets.PackageSets.TheInside.{Inside}
use Rattle.std.specs.Prelude.{length}
use Rattle.package_sets.specs.KeptSets.{Kept}
use Rattle.package_sets.specs.Consistent.{IsGood}
use Rattle.package_sets.specs.SymbolChains.{external_name, AreChainsOfNames}

-- what the sets of the program keep, as the logic has it
abbrev pub kept_of : Inside → Kept
kept_of a = record {
  names = a.names;
  packages = a.packages;
  symbols = a.symbols;
  imports = a.imports;
  imported = a.imported.items;
  externals = a.externals;
  uses = a.uses;
}

-- what is kept is good, and what is external is found by its name
pub record HasKeptSets (a : Inside) : Type 0 where
  pub good : IsGood (kept_of a)
  pub chained : AreChainsOfNames (external_name a.symbols a.externals) (length a.externals) a.chains
