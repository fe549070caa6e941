use Rattle.std.proofs.Common.{◌≡◌, length, sym, ap, subst, ◌∙◌}
use Rattle.package_sets.specs.KeptSets.{Kept}
use Rattle.package_sets.specs.Consistent.{IsGood}
use Rattle.package_sets.specs.SymbolChains.{external_name, AreChainsOfNames}
use Rattle.package_sets.specs.Views.{kept_of}
use Rattle.package_sets.proofs.sets.PackageSets.copy_with.Goals as goal

pub invariant_of-result : goal.invariant_of-result
invariant_of-result c =
    let is : ◌≡◌ {A = Kept} (kept_of c.self.inside) (record {
      names = c.in_ok-names.names;
      packages = c.in_ok-packages.packages;
      symbols = c.in_ok-symbols.symbols;
      imports = c.in_ok-imports.imports;
      imported = c.args.imported.items;
      externals = c.in_ok-externals.externals;
      uses = c.in_ok-uses.uses;
    }) = λ i. record {
      names = sym c.in_ok-names.ensures i;
      packages = sym c.in_ok-packages.ensures i;
      symbols = sym c.in_ok-symbols.ensures i;
      imports = sym c.in_ok-imports.ensures i;
      imported = (ap (λ (k : Kept). k.imported) c.self.view_is ∙ sym c.requires.imported) i;
      externals = sym c.in_ok-externals.ensures i;
      uses = sym c.in_ok-uses.ensures i;
    } in
    record {
      good = subst IsGood is c.self.invariant.good;
      chained = subst (λ (k : Kept). AreChainsOfNames (external_name k.symbols k.externals) (length k.externals) c.args.chains) (sym c.self.view_is ∙ is) c.requires.chained;
    }

pub returns : goal.returns
returns c =
    let is : ◌≡◌ {A = Kept} (kept_of c.self.inside) (record {
      names = c.in_ok-names.names;
      packages = c.in_ok-packages.packages;
      symbols = c.in_ok-symbols.symbols;
      imports = c.in_ok-imports.imports;
      imported = c.args.imported.items;
      externals = c.in_ok-externals.externals;
      uses = c.in_ok-uses.uses;
    }) = λ i. record {
      names = sym c.in_ok-names.ensures i;
      packages = sym c.in_ok-packages.ensures i;
      symbols = sym c.in_ok-symbols.ensures i;
      imports = sym c.in_ok-imports.ensures i;
      imported = (ap (λ (k : Kept). k.imported) c.self.view_is ∙ sym c.requires.imported) i;
      externals = sym c.in_ok-externals.ensures i;
      uses = sym c.in_ok-uses.ensures i;
    } in
    sym is ∙ c.self.view_is
