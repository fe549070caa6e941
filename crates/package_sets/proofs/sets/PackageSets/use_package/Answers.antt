use Rattle.std.proofs.Common.{◌<◌, ℕ, List, length, position, sym, ap, subst, ◌∙◌}
use Rattle.package_sets.specs.KeptSets.{Kept, pair_eq}
use Rattle.package_sets.specs.Consistent.{IsGood}
use Rattle.package_sets.specs.Views.{kept_of}
use Rattle.package_sets.proofs.Growing.{good_use}
use Rattle.package_sets.proofs.sets.PackageSets.use_package.Goals as goal

pub invariant_of-self-2 : goal.invariant_of-self-2
invariant_of-self-2 c =
    let k : Kept = kept_of c.self.inside in
    let owner = subst (λ (k : Kept). c.args.owner < length k.packages) (sym c.self.view_is) c.requires.owner in
    let used = subst (λ (k : Kept). c.args.used < length k.packages) (sym c.self.view_is) c.requires.used in
    let none = ap (λ (k : Kept). position (pair_eq (c.args.owner, c.args.used)) k.uses) c.self.view_is ∙ c.requires.absent in
    record {
      good = subst (λ (ps : List (ℕ × ℕ)). IsGood (record k { uses = ps })) (sym c.in_ok-push.ensures.ok)
          (good_use k c.self.invariant.good c.args.owner c.args.used owner used c.requires.apart none);
      chained = c.self.invariant.chained;
    }
