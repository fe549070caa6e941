use Rattle.std.proofs.lemmas.Result.{err_from_is_err_and}
use Rattle.store_looks.proofs.Looking.{files_done, files_failed, files_memory, files_unread}
use Rattle.store_looks.proofs.figures.file_figures_on.Goals as goal

pub returns-in_err-figures-clause-looks : goal.returns-in_err-figures-clause-looks
returns-in_err-figures-clause-looks g c =
    let p = err_from_is_err_and c.from_residual.result c.from_residual.ensures.1 in
    rw p.1 (files_unread c.args.sight _ c.in_err-figures.field-0.0 p.0 c.in_err-figures.ensures p.2)

pub returns-in_err-half-clause-looks : goal.returns-in_err-half-clause-looks
returns-in_err-half-clause-looks g c =
    let p = err_from_is_err_and c.from_residual-in_err-half.result c.from_residual-in_err-half.ensures.1 in
    rw p.1 (files_failed c.args.sight _ c.in_err-half.field-0.0 p.0 c.in_err-half.ensures.refused p.2)

pub returns-in_err-text-clause-looks : goal.returns-in_err-text-clause-looks
returns-in_err-text-clause-looks g c =
    let p = err_from_is_err_and c.from_residual-in_err-text.result c.from_residual-in_err-text.ensures.1 in
    rw p.1 (files_memory c.args.sight _ p.0 p.2)

pub returns-clause-looks : goal.returns-clause-looks
returns-clause-looks g c =
    files_done c.args.sight _ c.args.notation c.in_ok-half.half c.in_ok-figures.figures c.in_ok-text.text.items c.as_slice.result.now c.in_ok-figures.ensures c.in_ok-half.ensures.figures c.as_slice.ensures.value
    c.in_ok-text.ensures _ _ c.write_told.result c.write_told.ensures
