use Rattle.std.proofs.Common.{ℕ, ◌<◌, ◌∙◌, List, length, get_or, sym, ap, subst}
use Rattle.package_table.specs.Meaning.{shown_symbol}
use Rattle.package_table.proofs.ListedBy.{shown_place_fits, shown_symbol_fits}
use Rattle.package_table.proofs.lists.shown_names.Goals as goal

pub shown_symbol-requires : goal.shown_symbol-requires
shown_symbol-requires c high =
    subst (λ (xs : List ℕ). get_or xs c.loop-position.position-index 0 < length c.args.sets.now.externals) (sym c.shown_positions-positions.ensures)
    (shown_place_fits c.args.sets.now c.args.owner c.loop-position.position-index (subst (λ (xs : List ℕ). c.loop-position.position-index < length xs) c.shown_positions-positions.ensures c.loop-position-test.true) high)

pub symbol_name-requires : goal.symbol_name-requires
symbol_name-requires c =
    subst (λ (i : ℕ). i < length c.args.sets.now.symbols) (sym (c.shown_symbol.ensures ∙ ap (λ (xs : List ℕ). shown_symbol c.args.sets.now c.args.owner (get_or xs c.loop-position.position-index 0)) c.shown_positions-positions.ensures))
    (shown_symbol_fits c.args.sets.now c.goodness.ensures c.args.owner c.loop-position.position-index (subst (λ (xs : List ℕ). c.loop-position.position-index < length xs) c.shown_positions-positions.ensures c.loop-position-test.true))
