use Rattle.std.proofs.Common.{◌∙◌, refl, sym, ap, subst}
use Rattle.package_sets.specs.KeptSets.{Kept}
use Rattle.package_sets.specs.Consistent.{IsGood}
use Rattle.package_table.specs.Numbers.{Numbered}
use Rattle.package_table.specs.Meaning.{numbered_of}
use Rattle.package_table.specs.Adds.{AddsNoSymbol}
use Rattle.package_table.proofs.Names.{none_some}
use Rattle.package_table.proofs.Added.{use_added}
use Rattle.package_table.proofs.Adding.{use_adds}
use Rattle.package_table.proofs.ByName.{package_is, used_is}
use Rattle.package_table.proofs.Puts.{apart_numbers, none_of}
use Rattle.package_table.proofs.put.put_use.Goals as goal

pub unreachable-requires : goal.unreachable-requires
unreachable-requires c = let is = package_is c.args.sets.now c.goodness.ensures c.args.owner.now c.requires.package in none_some is.0 (c.in_default.ensures ∙ is.1)

pub unreachable-requires-in_default-find_package : goal.unreachable-requires-in_default-find_package
unreachable-requires-in_default-find_package c = let is = package_is c.args.sets.now c.goodness.ensures c.args.used.now c.requires.other in none_some is.0 (c.in_default-find_package.ensures ∙ is.1)

pub use_package-requires-clause-apart : goal.use_package-requires-clause-apart
use_package-requires-clause-apart c same = apart_numbers c.args.sets.now c.args.owner.now c.args.used.now c.in-Some.owner c.in-Some-find_package.used (sym c.in-Some.ensures) (sym c.in-Some-find_package.ensures) c.requires.apart same

pub use_package-requires-clause-absent : goal.use_package-requires-clause-absent
use_package-requires-clause-absent c =
    none_of _ (used_is c.args.sets.now c.goodness.ensures c.args.owner.now c.args.used.now c.in-Some.owner c.in-Some-find_package.used (sym c.in-Some.ensures) (sym c.in-Some-find_package.ensures) ∙ c.requires.unused)

pub returns-clause-ok : goal.returns-clause-ok
returns-clause-ok c =
    ap (λ (k : Kept). (numbered_of k).0) c.in_ok-use_package.ensures.ok
    ∙ ap (λ (s : Numbered). s.0) (use_added c.args.sets.now c.goodness.ensures c.args.owner.now c.args.used.now c.in-Some.owner c.in-Some-find_package.used (sym c.in-Some.ensures) (sym c.in-Some-find_package.ensures)
    (none_of _ (used_is c.args.sets.now c.goodness.ensures c.args.owner.now c.args.used.now c.in-Some.owner c.in-Some-find_package.used (sym c.in-Some.ensures) (sym c.in-Some-find_package.ensures) ∙ c.requires.unused)))

pub returns-clause-adds : goal.returns-clause-adds
returns-clause-adds c = subst (AddsNoSymbol c.args.sets.now) (sym c.in_ok-use_package.ensures.ok) (use_adds c.args.sets.now c.in-Some.owner c.in-Some-find_package.used (subst IsGood c.in_ok-use_package.ensures.ok c.goodness-2.ensures), refl)
