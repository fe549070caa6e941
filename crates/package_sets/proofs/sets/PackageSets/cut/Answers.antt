use Rattle.std.proofs.Common.{◌≡◌, ℕ, List, length, take, sym, subst}
use Rattle.package_sets.specs.KeptSets.{Kept, cut}
use Rattle.package_sets.specs.Consistent.{IsGood}
use Rattle.package_sets.specs.SymbolChains.{external_name, AreChainsOfNames}
use Rattle.package_sets.specs.Views.{kept_of}
use Rattle.package_sets.proofs.Chaining.{chained_cut}
use Rattle.package_sets.proofs.sets.PackageSets.cut.Goals as goal

pub invariant_of-self : goal.invariant_of-self
invariant_of-self c =
    let k : Kept = kept_of c.self.inside in
    let good : IsGood (cut c.args.sizes (kept_of c.self.inside)) = subst (λ (k : Kept). IsGood (cut c.args.sizes k)) (sym c.self.view_is) c.requires in
    let is : ◌≡◌ {A = Kept} (cut c.args.sizes (kept_of c.self.inside)) (record {
      names = c.truncate-2.new.self;
      packages = c.truncate-3.new.self;
      symbols = c.truncate-4.new.self;
      imports = c.truncate-5.new.self;
      imported = c.truncate-6.new.self.items;
      externals = c.truncate-7.new.self;
      uses = c.truncate-8.new.self;
    }) = λ i. record {
      names = sym c.truncate-2.ensures i;
      packages = sym c.truncate-3.ensures i;
      symbols = sym c.truncate-4.ensures i;
      imports = sym c.truncate-5.ensures i;
      imported = sym c.truncate-6.ensures.items i;
      externals = sym c.truncate-7.ensures i;
      uses = sym c.truncate-8.ensures i;
    } in
    record {
      good = subst IsGood is good;
      chained = subst (λ (ps : List (ℕ × ℕ) × List (ℕ × ℕ)). AreChainsOfNames (external_name ps.0 ps.1) (length ps.1) c.truncate.new.self) (λ i. (sym c.truncate-4.ensures i, sym c.truncate-7.ensures i))
          (chained_cut c.self.inside.symbols c.self.inside.externals (length (take c.args.sizes.packages c.self.inside.packages)) c.args.sizes.externals c.args.sizes.symbols c.truncate.new.self good.within.externals c.truncate.ensures);
    }
