use Rattle.std.proofs.Common.{◌≡◌, ◌<◌, ◌++◌, ◌∷◌, [], ℕ, List, length, position, sym, ap, subst, ◌∙◌}
use Rattle.package_sets.specs.KeptSets.{Kept, pair_eq}
use Rattle.package_sets.specs.Consistent.{IsGood}
use Rattle.package_sets.specs.Changes.{symbol_named, number_among, with_name}
use Rattle.package_sets.specs.Views.{kept_of}
use Rattle.package_sets.specs.SymbolChains.{external_name, AreChainsOfNames}
use Rattle.package_sets.proofs.Chaining.{chained_symbol}
use Rattle.package_sets.proofs.Growing.{absent_symbol, good_symbol}
use Rattle.package_sets.proofs.sets.PackageSets.intern.Goals as goal

pub push-requires : goal.push-requires
push-requires c =
    let k : Kept = kept_of c.self.inside in
    let none = ap (λ (k : Kept). symbol_named k c.args.home c.args.name.now) c.self.view_is ∙ c.requires.absent in
    ap (λ (n : ℕ). position (pair_eq (c.args.home, n)) k.symbols) c.in_ok-name.ensures.number
    ∙ absent_symbol k c.self.invariant.good c.args.home c.args.name.now none

pub invariant_of-self-in_default : goal.invariant_of-self-in_default
invariant_of-self-in_default c =
    let k : Kept = kept_of c.self.inside in
    let home = subst (λ (k : Kept). c.args.home < length k.packages) (sym c.self.view_is) c.requires.home in
    let none = ap (λ (k : Kept). symbol_named k c.args.home c.args.name.now) c.self.view_is ∙ c.requires.absent in
    let symbols : c.push.new.self ≡ k.symbols ++ (c.args.home, number_among k.names c.args.name.now) ∷ [] =
    c.in_default.ensures.ok ∙ ap (λ (n : ℕ). k.symbols ++ (c.args.home, n) ∷ []) c.in_ok-name.ensures.number in
    let names : c.intern.new.self ≡ with_name k.names c.args.name.now = c.in_ok-name.ensures.ok in
    let is : ◌≡◌ {A = Kept} (record k { names = with_name k.names c.args.name.now; symbols = k.symbols ++ (c.args.home, number_among k.names c.args.name.now) ∷ [] }) (record k { names = c.intern.new.self; symbols = c.push.new.self }) =
    λ i. record k { names = sym names i; symbols = sym symbols i } in
    record {
      good = subst IsGood is (good_symbol k c.self.invariant.good c.args.home c.args.name.now home none);
      chained = subst (λ (ps : List (ℕ × ℕ)). AreChainsOfNames (external_name ps k.externals) (length k.externals) c.self.inside.chains) (sym symbols)
          (chained_symbol k.symbols k.externals (length k.packages) c.self.invariant.good.within.externals (c.args.home, number_among k.names c.args.name.now) c.self.inside.chains c.self.invariant.chained);
    }
