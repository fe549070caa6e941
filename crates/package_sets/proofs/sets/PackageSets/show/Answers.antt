use Rattle.std.proofs.Common.{◌<◌, ℕ, List, length, position, sym, ap, subst, ◌∙◌}
use Rattle.package_sets.specs.KeptSets.{Kept, pair_eq}
use Rattle.package_sets.specs.Consistent.{IsGood}
use Rattle.package_sets.specs.SymbolChains.{external_name, AreChainsOfNames}
use Rattle.package_sets.specs.Views.{kept_of}
use Rattle.package_sets.proofs.Growing.{good_external}
use Rattle.package_sets.proofs.Chaining.{chained_kept, chained_external}
use Rattle.package_sets.proofs.sets.PackageSets.show.Goals as goal

pub invariant_of-self : goal.invariant_of-self
invariant_of-self c = record {
  good = c.self.invariant.good;
  chained = chained_kept (external_name c.self.inside.symbols c.self.inside.externals) (length c.self.inside.externals) c.self.inside.chains c.reserve.new.self c.reserve.ensures.lasts c.reserve.ensures.befores c.self.invariant.chained;
}

pub invariant_of-self-in_err-push : goal.invariant_of-self-in_err-push
invariant_of-self-in_err-push c =
    let k : Kept = kept_of c.self.inside in
    record {
      good = subst (λ (ps : List (ℕ × ℕ)). IsGood (record k { externals = ps })) (sym c.in_err-push.ensures.err) c.self.invariant.good;
      chained = subst (λ (ps : List (ℕ × ℕ)). AreChainsOfNames (external_name c.self.inside.symbols ps) (length ps) c.reserve.new.self) (sym c.in_err-push.ensures.err)
          (chained_kept (external_name c.self.inside.symbols c.self.inside.externals) (length c.self.inside.externals) c.self.inside.chains c.reserve.new.self c.reserve.ensures.lasts c.reserve.ensures.befores c.self.invariant.chained);
    }

pub invariant_of-self-2 : goal.invariant_of-self-2
invariant_of-self-2 c =
    let k : Kept = kept_of c.self.inside in
    let owner = subst (λ (k : Kept). c.args.owner < length k.packages) (sym c.self.view_is) c.requires.owner in
    let symbol = subst (λ (k : Kept). c.args.symbol < length k.symbols) (sym c.self.view_is) c.requires.symbol in
    let none = ap (λ (k : Kept). position (pair_eq (c.args.owner, c.args.symbol)) k.externals) c.self.view_is ∙ c.requires.absent in
    let before = chained_kept (external_name c.self.inside.symbols c.self.inside.externals) (length c.self.inside.externals) c.self.inside.chains c.reserve.new.self c.reserve.ensures.lasts c.reserve.ensures.befores c.self.invariant.chained in
    record {
      good = subst (λ (ps : List (ℕ × ℕ)). IsGood (record k { externals = ps })) (sym c.in_ok-push.ensures.ok)
          (good_external k c.self.invariant.good c.args.owner c.args.symbol owner symbol none);
      chained = subst (λ (ps : List (ℕ × ℕ)). AreChainsOfNames (external_name c.self.inside.symbols ps) (length ps) c.push_reserved.new.self) (sym c.in_ok-push.ensures.ok)
          (chained_external c.self.inside.symbols c.self.inside.externals (c.args.owner, c.args.symbol) c.at-name.result.second c.len.result c.reserve.new.self c.push_reserved.new.self
          (ap (λ (p : ℕ × ℕ). p.1) c.at-name.ensures) (c.len.ensures ∙ ap (λ (ps : List (ℕ × ℕ)). length ps) c.in_ok-push.ensures.ok) c.push_reserved.ensures.lasts c.push_reserved.ensures.befores before);
    }
