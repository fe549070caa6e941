use Rattle.std.proofs.Common.{◌∙◌, false, is_some, bytes_eq, refl, sym, ap, subst}
use Rattle.std.proofs.lemmas.Bool.{false≢true}
use Rattle.std.specs.Option.{option_map_or}
use Rattle.package_sets.specs.KeptSets.{Kept}
use Rattle.package_sets.specs.Consistent.{IsGood}
use Rattle.package_table.specs.Numbers.{Numbered}
use Rattle.package_table.specs.Meaning.{numbered_of, number_in}
use Rattle.package_table.specs.Adds.{AddsNoSymbol}
use Rattle.package_table.proofs.Mapped.{named}
use Rattle.package_table.proofs.Names.{none_some}
use Rattle.package_table.proofs.Adding.{external_adds}
use Rattle.package_table.proofs.FoundBy.{found_no_name}
use Rattle.package_table.proofs.ByName.{package_is}
use Rattle.package_table.proofs.Puts.{this_found, this_home, this_known, own_of, shown_present, shown_inherited, inherited_adds, not_external, none_of}
use Rattle.package_table.proofs.put.put_external.Goals as goal

pub unreachable-requires : goal.unreachable-requires
unreachable-requires c = let is = package_is c.args.sets.now c.goodness.ensures c.args.owner.now c.requires.package in none_some is.0 (c.in_default.ensures ∙ is.1)

pub unreachable-requires-in_default-find_name : goal.unreachable-requires-in_default-find_name
unreachable-requires-in_default-find_name c =
    false≢true (sym (ap (λ o. option_map_or (λ g. bytes_eq g c.args.home.now) o false) (found_no_name c.args.sets.now c.goodness.ensures c.args.owner.now c.args.name.now (sym c.in_default-find_name.ensures))) ∙ c.requires.finds)

pub found_number-requires-clause-owner : goal.found_number-requires-clause-owner
found_number-requires-clause-owner c = (named c.args.owner.now c.args.sets.now.packages c.in-Some.owner (sym c.in-Some.ensures)).0

pub found_number-requires-clause-name : goal.found_number-requires-clause-name
found_number-requires-clause-name c = (named c.args.name.now c.args.sets.now.names c.in-Some-find_name.name (sym c.in-Some-find_name.ensures)).0

pub unreachable-requires-in_default-found_number : goal.unreachable-requires-in_default-found_number
unreachable-requires-in_default-found_number c =
    let is = this_found c.args.sets.now c.goodness.ensures c.args.owner.now c.args.name.now c.in-Some.owner (sym c.in-Some.ensures) c.in-Some-find_name.name (sym c.in-Some-find_name.ensures) c.requires.joined c.args.home.now c.requires.finds in
    none_some is.0 (c.in_default-found_number.ensures ∙ is.1)

pub show-requires-clause-absent : goal.show-requires-clause-absent
show-requires-clause-absent c = not_external c.args.sets.now c.goodness.ensures c.args.owner.now c.args.name.now c.in-Some.owner c.in-Some-find_name.name c.in-Some-found_number.symbol (sym c.in-Some.ensures) (sym c.in-Some-find_name.ensures) (own_of c.args.sets.now c.in-Some.owner c.in-Some-find_name.name c.in-Some-found_number.symbol (sym c.in-Some-found_number.ensures) (sym (ap is_some c.number_in.ensures) ∙ sym c.is_some.ensures ∙ c.if-is_some.true)) c.requires.hidden

pub returns-then-is_some-clause-ok : goal.returns-then-is_some-clause-ok
returns-then-is_some-clause-ok c =
    ap (λ (k : Kept). (numbered_of k).0) c.in_ok-show.ensures.ok
    ∙ ap (λ (s : Numbered). s.0) (shown_present c.args.sets.now c.goodness.ensures c.args.owner.now c.args.name.now c.in-Some.owner (sym c.in-Some.ensures) c.in-Some-find_name.name (sym c.in-Some-find_name.ensures) c.in-Some-found_number.symbol c.args.home.now (own_of c.args.sets.now c.in-Some.owner c.in-Some-find_name.name c.in-Some-found_number.symbol (sym c.in-Some-found_number.ensures) (sym (ap is_some c.number_in.ensures) ∙ sym c.is_some.ensures ∙ c.if-is_some.true)) (this_home c.args.sets.now c.goodness.ensures c.args.owner.now c.args.name.now c.in-Some.owner (sym c.in-Some.ensures) c.in-Some-find_name.name (sym c.in-Some-find_name.ensures) c.requires.joined c.args.home.now c.requires.finds c.in-Some-found_number.symbol (sym c.in-Some-found_number.ensures)))

pub returns-then-is_some-clause-adds : goal.returns-then-is_some-clause-adds
returns-then-is_some-clause-adds c =
    subst (AddsNoSymbol c.args.sets.now) (sym c.in_ok-show.ensures.ok) (external_adds c.args.sets.now c.goodness.ensures c.in-Some.owner c.in-Some-find_name.name c.in-Some-found_number.symbol (own_of c.args.sets.now c.in-Some.owner c.in-Some-find_name.name c.in-Some-found_number.symbol (sym c.in-Some-found_number.ensures) (sym (ap is_some c.number_in.ensures) ∙ sym c.is_some.ensures ∙ c.if-is_some.true)) (subst IsGood c.in_ok-show.ensures.ok c.goodness-then-is_some.ensures), refl)

pub import_and_show-requires-clause-symbol : goal.import_and_show-requires-clause-symbol
import_and_show-requires-clause-symbol c = (this_known c.args.sets.now c.goodness.ensures c.args.owner.now c.args.name.now c.in-Some.owner (sym c.in-Some.ensures) c.in-Some-find_name.name (sym c.in-Some-find_name.ensures) c.in-Some-found_number.symbol (sym c.in-Some-found_number.ensures)).0

pub import_and_show-requires-clause-fresh : goal.import_and_show-requires-clause-fresh
import_and_show-requires-clause-fresh c = ap (number_in c.args.sets.now c.in-Some.owner) (this_known c.args.sets.now c.goodness.ensures c.args.owner.now c.args.name.now c.in-Some.owner (sym c.in-Some.ensures) c.in-Some-find_name.name (sym c.in-Some-find_name.ensures) c.in-Some-found_number.symbol (sym c.in-Some-found_number.ensures)).1 ∙ (none_of (number_in c.args.sets.now c.in-Some.owner c.in-Some-find_name.name) (sym (ap is_some c.number_in.ensures) ∙ sym c.is_some.ensures ∙ c.if-is_some.false))

pub returns-clause-ok : goal.returns-clause-ok
returns-clause-ok c =
    let at = this_known c.args.sets.now c.goodness.ensures c.args.owner.now c.args.name.now c.in-Some.owner (sym c.in-Some.ensures) c.in-Some-find_name.name (sym c.in-Some-find_name.ensures) c.in-Some-found_number.symbol (sym c.in-Some-found_number.ensures) in
    ap (λ (k : Kept). (numbered_of k).0) c.in_ok-import_and_show.ensures.ok
    ∙ shown_inherited c.args.sets.now c.goodness.ensures c.args.owner.now c.args.name.now c.in-Some.owner (sym c.in-Some.ensures) c.in-Some-find_name.name (sym c.in-Some-find_name.ensures) c.in-Some-found_number.symbol at.0 at.1 (none_of (number_in c.args.sets.now c.in-Some.owner c.in-Some-find_name.name) (sym (ap is_some c.number_in.ensures) ∙ sym c.is_some.ensures ∙ c.if-is_some.false)) c.in_ok-import_and_show.ensures.good c.args.home.now (this_home c.args.sets.now c.goodness.ensures c.args.owner.now c.args.name.now c.in-Some.owner (sym c.in-Some.ensures) c.in-Some-find_name.name (sym c.in-Some-find_name.ensures) c.requires.joined c.args.home.now c.requires.finds c.in-Some-found_number.symbol (sym c.in-Some-found_number.ensures))

pub returns-clause-adds : goal.returns-clause-adds
returns-clause-adds c =
    let at = this_known c.args.sets.now c.goodness.ensures c.args.owner.now c.args.name.now c.in-Some.owner (sym c.in-Some.ensures) c.in-Some-find_name.name (sym c.in-Some-find_name.ensures) c.in-Some-found_number.symbol (sym c.in-Some-found_number.ensures) in
    subst (AddsNoSymbol c.args.sets.now) (sym c.in_ok-import_and_show.ensures.ok) (inherited_adds c.args.sets.now c.goodness.ensures c.args.owner.now c.args.name.now c.in-Some.owner (sym c.in-Some.ensures) c.in-Some-find_name.name (sym c.in-Some-find_name.ensures) c.in-Some-found_number.symbol at.0 at.1 (none_of (number_in c.args.sets.now c.in-Some.owner c.in-Some-find_name.name) (sym (ap is_some c.number_in.ensures) ∙ sym c.is_some.ensures ∙ c.if-is_some.false)) c.in_ok-import_and_show.ensures.good (subst IsGood c.in_ok-import_and_show.ensures.ok c.goodness-2.ensures), refl)
