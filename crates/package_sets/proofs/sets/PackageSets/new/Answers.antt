use Rattle.std.proofs.Common.{◌≡◌, ℕ, List, [], length, sym, subst}
use Rattle.package_sets.specs.KeptSets.{Kept, nothing}
use Rattle.package_sets.specs.Consistent.{IsGood}
use Rattle.package_sets.specs.SymbolChains.{external_name, AreChainsOfNames}
use Rattle.package_sets.proofs.Growing.{good_nothing}
use Rattle.package_sets.proofs.sets.PackageSets.new.Goals as goal

pub invariant_of-result : goal.invariant_of-result
invariant_of-result c =
    let is : ◌≡◌ {A = Kept} nothing (record {
      names = c.new.result;
      packages = c.new-2.result;
      symbols = c.new-3.result;
      imports = c.new-4.result;
      imported = c.new-5.result.items;
      externals = c.new-6.result;
      uses = c.new-8.result;
    }) = λ i. record {
      names = sym c.new.ensures i;
      packages = sym c.new-2.ensures i;
      symbols = sym c.new-3.ensures i;
      imports = sym c.new-4.ensures i;
      imported = sym c.new-5.ensures.items i;
      externals = sym c.new-6.ensures i;
      uses = sym c.new-8.ensures i;
    } in
    record {
      good = subst IsGood is good_nothing;
      chained = subst (λ (ps : List (ℕ × ℕ)). AreChainsOfNames (external_name c.new-3.result ps) (length ps) c.new-7.result) (sym c.new-6.ensures) (c.new-7.ensures (external_name c.new-3.result []));
    }
