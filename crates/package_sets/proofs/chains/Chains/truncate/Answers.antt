use Rattle.std.proofs.Common.{◌≡◌, ◌<◌, ◌-◌, ℕ, suc, cond, nat_eq, length, get_or, take, sym, ap, subst, ◌∙◌, arith}
use Rattle.package_sets.specs.KeptSets.{pair_at}
use Rattle.package_sets.specs.SymbolChains.{external_name, AreChainsOfNames}
use Rattle.package_sets.proofs.Chaining.{name_there, chained_pop, take_fits, take_holds}
use Rattle.package_sets.proofs.chains.Chains.truncate.Goals as goal

pub pop-requires-clause-there : goal.pop-requires-clause-there
pop-requires-clause-there c =
    let more : c.loop-kept.kept ≡ suc (c.loop-kept.kept - 1) = omega (arith, c.loop-kept-test.true) in
    let name : c.at.result.second ≡ external_name c.args.symbols.now c.args.externals.now (c.loop-kept.kept - 1) =
    ap (λ (p : ℕ × ℕ). p.1) c.at.ensures ∙ ap (λ (e : ℕ × ℕ). (pair_at c.args.symbols.now e.1).1) c.at-external.ensures in
    subst (λ (j : ℕ). j < length c.loop-kept.self.lasts.items) (sym name)
    (name_there (external_name c.args.symbols.now c.args.externals.now) (c.loop-kept.kept - 1) c.loop-kept.self
    (subst (λ (n : ℕ). AreChainsOfNames (external_name c.args.symbols.now c.args.externals.now) n c.loop-kept.self) more c.loop-kept.invariant.chained))

pub loop-kept-preserved : goal.loop-kept-preserved
loop-kept-preserved c =
    let more : c.loop-kept.kept ≡ suc (c.loop-kept.kept - 1) = omega (arith, c.loop-kept-test.true) in
    let name : c.at.result.second ≡ external_name c.args.symbols.now c.args.externals.now (c.loop-kept.kept - 1) =
    ap (λ (p : ℕ × ℕ). p.1) c.at.ensures ∙ ap (λ (e : ℕ × ℕ). (pair_at c.args.symbols.now e.1).1) c.at-external.ensures in
    record {
      chained = chained_pop (external_name c.args.symbols.now c.args.externals.now) (c.loop-kept.kept - 1) c.loop-kept.self c.pop.new.self c.pop.ensures.befores
          (λ j. c.pop.ensures.lasts j ∙ ap (λ (m : ℕ). cond (nat_eq m j) (get_or c.loop-kept.self.befores.items (length c.pop.new.self.befores.items) 0) (get_or c.loop-kept.self.lasts.items j 0)) name)
          (subst (λ (n : ℕ). AreChainsOfNames (external_name c.args.symbols.now c.args.externals.now) n c.loop-kept.self) more c.loop-kept.invariant.chained);
      fits = omega (arith, c.loop-kept.invariant.fits);
      enough = omega (arith, c.loop-kept-test.true, take_fits c.args.len c.args.externals.now);
    }

pub returns : goal.returns
returns c =
    let holds = take_holds c.args.len c.args.externals.now c.loop-kept.kept (omega (arith, c.loop-kept-test.false)) c.loop-kept.invariant.fits in
    let is : c.loop-kept.kept ≡ length (take c.args.len c.args.externals.now) = omega (arith, holds, c.loop-kept.invariant.enough) in
    subst (λ (n : ℕ). AreChainsOfNames (external_name c.args.symbols.now c.args.externals.now) n c.loop-kept.self) is c.loop-kept.invariant.chained
