use Rattle.std.proofs.lemmas.Result.{err_from_is_err_and}
use Rattle.store_looks.proofs.Looking.{info_done, info_failed, info_memory, info_unopened, info_unread}
use Rattle.store_looks.proofs.figures.figures_on.Goals as goal

pub returns-in_err-figures-clause-looks : goal.returns-in_err-figures-clause-looks
returns-in_err-figures-clause-looks g c =
    let p = err_from_is_err_and c.from_residual.result c.from_residual.ensures.1 in
    rw p.1 (info_unread _ _ c.args.opening.disk _ _ c.in_err-figures.field-0.0 p.0 c.in_err-figures.ensures p.2)

pub returns-in_err-half-clause-looks : goal.returns-in_err-half-clause-looks
returns-in_err-half-clause-looks g c =
    let p = err_from_is_err_and c.from_residual-in_err-half.result c.from_residual-in_err-half.ensures.1 in
    rw p.1 (info_failed _ _ c.args.opening.disk _ _ c.in_err-half.field-0.0 p.0 c.in_err-half.ensures.refused p.2)

pub returns-in_err-store-clause-looks : goal.returns-in_err-store-clause-looks
returns-in_err-store-clause-looks g c =
    let p = err_from_is_err_and c.from_residual-in_err-store.result c.from_residual-in_err-store.ensures.1 in
    rw p.1 (info_unopened _ _ c.args.opening.disk _ _ c.in_ok-half.sight c.in_err-store.field-0.0 p.0 p.2 c.in_ok-half.ensures.reads c.in_err-store.ensures.refused)

pub returns-in_err-text-clause-looks : goal.returns-in_err-text-clause-looks
returns-in_err-text-clause-looks g c =
    let p = err_from_is_err_and c.from_residual-in_err-text.result c.from_residual-in_err-text.ensures.1 in
    rw p.1 (info_memory _ _ c.args.opening.disk _ _ p.0 p.2)

pub returns-clause-looks : goal.returns-clause-looks
returns-clause-looks g c =
    info_done _ _ c.in_ok-store.store c.args.notation _ _ _ c.in_ok-half.half c.in_ok-figures.figures c.in_ok-figures.ensures c.in_ok-half.ensures.figures c.in_ok-half.ensures.reads c.in_ok-store.ensures.opened _ c.info_of-told.result c.in_ok-text.text
    c.as_slice.result.now c.as_slice.ensures.value c.info_of-told.ensures c.in_ok-text.was _ _ c.write_told.result c.write_told.ensures
