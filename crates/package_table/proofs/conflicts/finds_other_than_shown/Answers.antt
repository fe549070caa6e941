use Rattle.std.proofs.Common.{◌∙◌, ◌<◌, ◌≤◌, ℕ, List, length, get_or, sym, ap, subst}
use Rattle.package_table.specs.Meaning.{finds_another, shown_positions, shown_symbol}
use Rattle.package_table.proofs.Mapped.{named}
use Rattle.package_table.proofs.Names.{none_some}
use Rattle.package_table.proofs.ByName.{package_is}
use Rattle.package_table.proofs.Listed.{any_hit, any_missed, any_end}
use Rattle.package_table.proofs.ListedBy.{shown_place_fits, shown_symbol_fits}
use Rattle.package_table.proofs.Conflicting.{shown_by_numbers}
use Rattle.package_table.proofs.conflicts.finds_other_than_shown.Goals as goal

pub unreachable-requires : goal.unreachable-requires
unreachable-requires c = let is = package_is c.args.sets.now c.goodness.ensures c.args.owner.now c.requires.owner in none_some is.0 (c.in_default.ensures ∙ is.1)

pub unreachable-requires-in_default-find_package : goal.unreachable-requires-in_default-find_package
unreachable-requires-in_default-find_package c = let is = package_is c.args.sets.now c.goodness.ensures c.args.used.now c.requires.used in none_some is.0 (c.in_default-find_package.ensures ∙ is.1)

pub shown_symbol-requires : goal.shown_symbol-requires
shown_symbol-requires c high =
    subst (λ (xs : List ℕ). get_or xs c.loop-position.position-index 0 < length c.args.sets.now.externals) (sym c.shown_positions-position-items.ensures)
    (shown_place_fits c.args.sets.now c.in-Some-find_package.used c.loop-position.position-index (subst (λ (xs : List ℕ). c.loop-position.position-index < length xs) c.shown_positions-position-items.ensures c.loop-position-test.true) high)

pub finds_another-requires-clause-owner : goal.finds_another-requires-clause-owner
finds_another-requires-clause-owner c = (named c.args.owner.now c.args.sets.now.packages c.in-Some.owner (sym c.in-Some.ensures)).0

pub finds_another-requires-clause-symbol : goal.finds_another-requires-clause-symbol
finds_another-requires-clause-symbol c =
    subst (λ (i : ℕ). i < length c.args.sets.now.symbols) (sym (c.shown_symbol.ensures ∙ ap (λ (xs : List ℕ). shown_symbol c.args.sets.now c.in-Some-find_package.used (get_or xs c.loop-position.position-index 0)) c.shown_positions-position-items.ensures))
    (shown_symbol_fits c.args.sets.now c.goodness.ensures c.in-Some-find_package.used c.loop-position.position-index (subst (λ (xs : List ℕ). c.loop-position.position-index < length xs) c.shown_positions-position-items.ensures c.loop-position-test.true))

pub loop-position-preserved : goal.loop-position-preserved
loop-position-preserved c =
    any_missed (λ x. finds_another c.args.sets.now c.in-Some.owner (shown_symbol c.args.sets.now c.in-Some-find_package.used x)) (shown_positions c.args.sets.now c.in-Some-find_package.used) c.loop-position.position-index (subst (λ (xs : List ℕ). c.loop-position.position-index < length xs) c.shown_positions-position-items.ensures c.loop-position-test.true) (ap (λ (xs : List ℕ). finds_another c.args.sets.now c.in-Some.owner (shown_symbol c.args.sets.now c.in-Some-find_package.used (get_or xs c.loop-position.position-index 0))) (sym c.shown_positions-position-items.ensures) ∙ ap (finds_another c.args.sets.now c.in-Some.owner) (sym c.shown_symbol.ensures) ∙ sym c.finds_another.ensures ∙ c.if-finds_another.false)
    ∙ c.loop-position.invariant

pub returns-then-finds_another : goal.returns-then-finds_another
returns-then-finds_another c =
    sym (any_hit (λ x. finds_another c.args.sets.now c.in-Some.owner (shown_symbol c.args.sets.now c.in-Some-find_package.used x)) (shown_positions c.args.sets.now c.in-Some-find_package.used) c.loop-position.position-index (subst (λ (xs : List ℕ). c.loop-position.position-index < length xs) c.shown_positions-position-items.ensures c.loop-position-test.true) (ap (λ (xs : List ℕ). finds_another c.args.sets.now c.in-Some.owner (shown_symbol c.args.sets.now c.in-Some-find_package.used (get_or xs c.loop-position.position-index 0))) (sym c.shown_positions-position-items.ensures) ∙ ap (finds_another c.args.sets.now c.in-Some.owner) (sym c.shown_symbol.ensures) ∙ sym c.finds_another.ensures ∙ c.if-finds_another.true))
    ∙ c.loop-position.invariant
    ∙ shown_by_numbers c.args.sets.now c.goodness.ensures c.requires.placed c.requires.sound c.args.owner.now c.args.used.now c.in-Some.owner c.in-Some-find_package.used (sym c.in-Some.ensures) (sym c.in-Some-find_package.ensures)

pub returns : goal.returns
returns c =
    sym (any_end (λ x. finds_another c.args.sets.now c.in-Some.owner (shown_symbol c.args.sets.now c.in-Some-find_package.used x)) (shown_positions c.args.sets.now c.in-Some-find_package.used) c.loop-position.position-index (subst (λ (xs : List ℕ). length xs ≤ c.loop-position.position-index) c.shown_positions-position-items.ensures c.loop-position-test.false))
    ∙ c.loop-position.invariant
    ∙ shown_by_numbers c.args.sets.now c.goodness.ensures c.requires.placed c.requires.sound c.args.owner.now c.args.used.now c.in-Some.owner c.in-Some-find_package.used (sym c.in-Some.ensures) (sym c.in-Some-find_package.ensures)
