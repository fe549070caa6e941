use Rattle.std.proofs.Common.{◌≡◌, ◌<◌, ◌++◌, ◌∷◌, [], ℕ, List, length, position, sym, ap, subst, ◌∙◌}
use Rattle.package_sets.specs.KeptSets.{Kept, pair_at, pair_eq}
use Rattle.package_sets.specs.Consistent.{IsGood}
use Rattle.package_sets.specs.Views.{kept_of}
use Rattle.package_sets.proofs.Growing.{good_import}
use Rattle.package_sets.proofs.sets.PackageSets.import.Goals as goal

pub push-requires : goal.push-requires
push-requires c =
    let none = ap (λ (k : Kept). position (pair_eq (c.args.owner, (pair_at k.symbols c.args.symbol).1)) k.imports) c.self.view_is ∙ c.requires.absent in
    ap (λ (n : ℕ). position (pair_eq (c.args.owner, n)) c.self.inside.imports) (ap (λ (p : ℕ × ℕ). p.1) c.at-name.ensures) ∙ none

pub invariant_of-self-2 : goal.invariant_of-self-2
invariant_of-self-2 c =
    let k : Kept = kept_of c.self.inside in
    let owner = subst (λ (k : Kept). c.args.owner < length k.packages) (sym c.self.view_is) c.requires.owner in
    let symbol = subst (λ (k : Kept). c.args.symbol < length k.symbols) (sym c.self.view_is) c.requires.symbol in
    let none = ap (λ (k : Kept). position (pair_eq (c.args.owner, (pair_at k.symbols c.args.symbol).1)) k.imports) c.self.view_is ∙ c.requires.absent in
    let name : c.at-name.result.second ≡ (pair_at k.symbols c.args.symbol).1 = ap (λ (p : ℕ × ℕ). p.1) c.at-name.ensures in
    let imports : c.push.new.self ≡ k.imports ++ (c.args.owner, (pair_at k.symbols c.args.symbol).1) ∷ [] =
    c.in_ok-push.ensures.ok ∙ ap (λ (n : ℕ). k.imports ++ (c.args.owner, n) ∷ []) name in
    let imported : c.push_reserved.new.self.items ≡ k.imported ++ c.args.symbol ∷ [] =
    c.push_reserved.ensures.items ∙ ap (λ (l : List ℕ). l ++ c.args.symbol ∷ []) c.in_ok-reserve.ensures.items in
    let is : ◌≡◌ {A = Kept} (record k { imports = k.imports ++ (c.args.owner, (pair_at k.symbols c.args.symbol).1) ∷ []; imported = k.imported ++ c.args.symbol ∷ [] }) (record k { imports = c.push.new.self; imported = c.push_reserved.new.self.items }) =
    λ i. record k { imports = sym imports i; imported = sym imported i } in
    record {
      good = subst IsGood is (good_import k c.self.invariant.good c.args.owner c.args.symbol owner symbol none);
      chained = c.self.invariant.chained;
    }
