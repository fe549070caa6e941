use Rattle.std.proofs.Common.{List, position, sym, ap, subst, ◌∙◌}
use Rattle.std.specs.Prelude.{bytes_eq}
use Rattle.package_sets.specs.KeptSets.{Kept, Name}
use Rattle.package_sets.specs.Consistent.{IsGood}
use Rattle.package_sets.specs.Views.{kept_of}
use Rattle.package_sets.proofs.Growing.{good_package}
use Rattle.package_sets.proofs.sets.PackageSets.make.Goals as goal

pub invariant_of-self-2 : goal.invariant_of-self-2
invariant_of-self-2 c =
    let k : Kept = kept_of c.self.inside in
    let none = ap (λ (k : Kept). position (bytes_eq c.args.name.now) k.packages) c.self.view_is ∙ c.requires in
    record {
      good = subst (λ (ps : List Name). IsGood (record k { packages = ps })) (sym c.in_ok-push.ensures.ok) (good_package k c.self.invariant.good c.args.name.now none);
      chained = c.self.invariant.chained;
    }
