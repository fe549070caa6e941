use Rattle.std.proofs.Common.{◌∙◌, refl, sym, ap, subst}
use Rattle.package_sets.specs.KeptSets.{Kept, pair_at}
use Rattle.package_sets.specs.Consistent.{IsGood}
use Rattle.package_table.specs.Numbers.{Numbered}
use Rattle.package_table.specs.Meaning.{numbered_of}
use Rattle.package_table.specs.Adds.{AddsNoSymbol}
use Rattle.package_table.proofs.Names.{none_some}
use Rattle.package_table.proofs.Adding.{imports_none}
use Rattle.package_table.proofs.ByName.{package_is, present_number}
use Rattle.package_table.proofs.Puts.{at_home_number, unimported, imported, imported_adds}
use Rattle.package_table.proofs.put.put_import.Goals as goal

pub unreachable-requires : goal.unreachable-requires
unreachable-requires c = let is = package_is c.args.sets.now c.goodness.ensures c.args.owner.now c.requires.package in none_some is.0 (c.in_default.ensures ∙ is.1)

pub unreachable-requires-in_default-find_package : goal.unreachable-requires-in_default-find_package
unreachable-requires-in_default-find_package c = let at = present_number c.args.sets.now c.goodness.ensures c.args.home.now c.args.name.now c.args.home.now c.requires.symbol in none_some at.p (c.in_default-find_package.ensures ∙ at.owner)

pub unreachable-requires-in_default-find_name : goal.unreachable-requires-in_default-find_name
unreachable-requires-in_default-find_name c = let at = present_number c.args.sets.now c.goodness.ensures c.args.home.now c.args.name.now c.args.home.now c.requires.symbol in none_some at.j (c.in_default-find_name.ensures ∙ at.name)

pub unreachable-requires-in_default-find_symbol : goal.unreachable-requires-in_default-find_symbol
unreachable-requires-in_default-find_symbol c =
    let at = at_home_number c.args.sets.now c.goodness.ensures c.args.home.now c.args.name.now c.in-Some-find_package.home c.in-Some-find_name.name (sym c.in-Some-find_package.ensures) (sym c.in-Some-find_name.ensures) c.requires.symbol in
    none_some at.0 (c.in_default-find_symbol.ensures ∙ at.1)

pub import-requires-clause-absent : goal.import-requires-clause-absent
import-requires-clause-absent c =
    imports_none c.args.sets.now c.in-Some.owner (pair_at c.args.sets.now.symbols c.in-Some-find_symbol.symbol).1
    (unimported c.args.sets.now c.goodness.ensures c.args.owner.now c.args.name.now c.in-Some.owner (sym c.in-Some.ensures) c.args.home.now c.in-Some-find_package.home c.in-Some-find_name.name c.in-Some-find_symbol.symbol (sym c.in-Some-find_package.ensures) (sym c.in-Some-find_name.ensures) (sym c.in-Some-find_symbol.ensures) c.requires.fresh)

pub returns-clause-ok : goal.returns-clause-ok
returns-clause-ok c =
    ap (λ (k : Kept). (numbered_of k).0) c.in_ok-import.ensures.ok
    ∙ ap (λ (s : Numbered). s.0) (imported c.args.sets.now c.goodness.ensures c.args.owner.now c.args.name.now c.in-Some.owner (sym c.in-Some.ensures) c.args.home.now c.in-Some-find_package.home c.in-Some-find_name.name c.in-Some-find_symbol.symbol (sym c.in-Some-find_package.ensures) (sym c.in-Some-find_name.ensures) (sym c.in-Some-find_symbol.ensures) c.requires.fresh c.requires.placed c.requires.unlocked)

pub returns-clause-adds : goal.returns-clause-adds
returns-clause-adds c =
    subst (AddsNoSymbol c.args.sets.now) (sym c.in_ok-import.ensures.ok)
    (imported_adds c.args.sets.now c.goodness.ensures c.args.owner.now c.args.name.now c.in-Some.owner (sym c.in-Some.ensures) c.args.home.now c.in-Some-find_package.home c.in-Some-find_name.name c.in-Some-find_symbol.symbol (sym c.in-Some-find_package.ensures) (sym c.in-Some-find_name.ensures) (sym c.in-Some-find_symbol.ensures) c.requires.fresh (subst IsGood c.in_ok-import.ensures.ok c.goodness-2.ensures), refl)
