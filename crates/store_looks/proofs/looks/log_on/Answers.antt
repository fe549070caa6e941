use Rattle.std.proofs.lemmas.Result.{err_from_is_err_and}
use Rattle.store_looks.proofs.Looking.{log_done, log_failed}
use Rattle.store_looks.proofs.looks.log_on.Goals as goal

pub returns-in_err-lines-clause-none : goal.returns-in_err-lines-clause-none
returns-in_err-lines-clause-none g c =
    let p = err_from_is_err_and c.from_residual.result c.from_residual.ensures.1 in
    rw p.1 (log_failed c.args.sight c.args.records c.in_err-lines.field-0.0 p.0 c.in_err-lines.ensures.refused p.2)

pub returns-clause-lines : goal.returns-clause-lines
returns-clause-lines g c =
    log_done c.args.sight c.args.records c.notation_for.result c.in_ok-lines.lines.items c.as_slice.result.now c.notation_for.ensures c.as_slice.ensures.value c.in_ok-lines.ensures.lines _ _
    c.write_told.result c.write_told.ensures
