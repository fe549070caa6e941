use Rattle.std.proofs.Common.{◌∙◌, refl, sym, ap, subst}
use Rattle.package_sets.specs.KeptSets.{Kept}
use Rattle.package_sets.specs.Consistent.{IsGood}
use Rattle.package_table.specs.Numbers.{Numbered}
use Rattle.package_table.specs.Meaning.{numbered_of}
use Rattle.package_table.specs.Adds.{AddsNoSymbol}
use Rattle.package_table.proofs.Added.{package_added}
use Rattle.package_table.proofs.Adding.{package_adds}
use Rattle.package_table.proofs.ByName.{package_absent}
use Rattle.package_table.proofs.put.put_package.Goals as goal

pub make-requires : goal.make-requires
make-requires c = package_absent c.args.sets.now c.goodness.ensures c.args.name.now c.requires

pub returns-clause-ok : goal.returns-clause-ok
returns-clause-ok c =
    ap (λ (k : Kept). (numbered_of k).0) c.in_ok-make.ensures.ok
    ∙ ap (λ (s : Numbered). s.0) (package_added c.args.sets.now c.goodness.ensures c.args.name.now (package_absent c.args.sets.now c.goodness.ensures c.args.name.now c.requires))

pub returns-clause-adds : goal.returns-clause-adds
returns-clause-adds c = subst (AddsNoSymbol c.args.sets.now) (sym c.in_ok-make.ensures.ok) (package_adds c.args.sets.now c.args.name.now (subst IsGood c.in_ok-make.ensures.ok c.goodness-2.ensures), refl)
