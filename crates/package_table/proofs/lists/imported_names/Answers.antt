use Rattle.std.proofs.Common.{ℕ, ◌<◌, ◌∙◌, List, length, get_or, sym, ap, subst, arith}
use Rattle.package_sets.specs.KeptSets.{positions_of}
use Rattle.package_sets.proofs.Places.{all_at}
use Rattle.package_table.proofs.ListedBy.{place_fits}
use Rattle.package_table.proofs.lists.imported_names.Goals as goal

pub imported_at-requires : goal.imported_at-requires
imported_at-requires c =
    subst (λ (xs : List ℕ). get_or xs c.loop-position.position-index 0 < length c.args.sets.now.imports) (sym c.imports_of-positions.ensures) (place_fits c.args.owner c.args.sets.now.imports c.loop-position.position-index (subst (λ (xs : List ℕ). c.loop-position.position-index < length xs) c.imports_of-positions.ensures c.loop-position-test.true))

pub symbol_name-requires : goal.symbol_name-requires
symbol_name-requires c =
    let fits = place_fits c.args.owner c.args.sets.now.imports c.loop-position.position-index (subst (λ (xs : List ℕ). c.loop-position.position-index < length xs) c.imports_of-positions.ensures c.loop-position-test.true) in
    let many = c.goodness.ensures.as_many in
    subst (λ (i : ℕ). i < length c.args.sets.now.symbols) (sym (c.imported_at.ensures ∙ ap (λ (xs : List ℕ). get_or c.args.sets.now.imported (get_or xs c.loop-position.position-index 0) 0) c.imports_of-positions.ensures))
    (all_at (λ s. s < length c.args.sets.now.symbols) c.args.sets.now.imported c.goodness.ensures.within.imported (get_or (positions_of c.args.owner c.args.sets.now.imports) c.loop-position.position-index 0) 0 (omega (arith, fits, many)))
