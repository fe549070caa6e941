use Rattle.std.proofs.Common.{◌∙◌, sym, subst}
use Rattle.package_sets.specs.declared.sizes.Sizes.{Sizes}
use Rattle.package_sets.specs.KeptSets.{Kept, cut}
use Rattle.package_sets.specs.Consistent.{IsGood}
use Rattle.package_sets.specs.Changes.{with_import}
use Rattle.package_table.proofs.Adding.{import_adds, cut_back}
use Rattle.package_table.proofs.put.import_and_show.Goals as goal

pub cut-requires : goal.cut-requires
cut-requires c =
    let back = cut_back c.args.sets.now (with_import c.args.sets.now c.args.owner c.args.symbol) c.goodness.ensures (import_adds c.args.sets.now c.goodness.ensures c.args.owner c.args.symbol c.requires.fresh (subst IsGood c.in_ok-import.ensures.ok c.goodness-2.ensures)) in
    subst (λ (k : Kept). IsGood (cut c.sizes-sizes.result k)) (sym (c.in-Err.ensures.err ∙ c.in_ok-import.ensures.ok))
    (subst (λ (n : Sizes). IsGood (cut n (with_import c.args.sets.now c.args.owner c.args.symbol))) (sym c.sizes-sizes.ensures)
    (subst IsGood (sym back) c.goodness.ensures))
