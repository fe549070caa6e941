use Rattle.std.proofs.lemmas.Result.{err_from_is_err_and}
use Rattle.store_looks.proofs.Looking.{show_done, show_failed, show_unopened}
use Rattle.store_looks.proofs.showing.show_on.Goals as goal

pub returns-in_err-store-clause-looks : goal.returns-in_err-store-clause-looks
returns-in_err-store-clause-looks g c =
    let p = err_from_is_err_and c.from_residual.result c.from_residual.ensures.1 in
    rw p.1 (show_unopened _ _ c.args.sight _ c.args.shown c.in_err-store.field-0.0 p.0 p.2 c.in_err-store.ensures.refused)

pub returns-in_err-text-clause-looks : goal.returns-in_err-text-clause-looks
returns-in_err-text-clause-looks g c =
    let p = err_from_is_err_and c.from_residual-in_err-text.result c.from_residual-in_err-text.ensures.1 in
    rw p.1 (show_failed _ _ c.in_ok-store.store _ c.in_ok-store.ensures.opened c.args.shown c.selection_of-selection.result c.selection_of-selection.ensures c.told_of-told.result c.told_of-told.ensures
    _ c.in_err-text.field-0.0 p.0 c.in_err-text.was p.2)

pub returns-clause-looks : goal.returns-clause-looks
returns-clause-looks g c =
    show_done _ _ c.in_ok-store.store _ c.in_ok-store.ensures.opened c.args.shown c.selection_of-selection.result c.selection_of-selection.ensures c.told_of-told.result c.told_of-told.ensures
    _ _ c.write_told.result c.in_ok-text.text c.as_slice.result.now c.in_ok-text.was c.as_slice.ensures.value c.write_told.ensures
