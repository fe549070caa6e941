use Rattle.std.proofs.lemmas.Result.{err_from_is_err_and}
use Rattle.store_looks.proofs.Looking.{dump_done, dump_failed, dump_unopened}
use Rattle.store_looks.proofs.looks.dump.Goals as goal

pub returns-in_err-cut-clause-looks : goal.returns-in_err-cut-clause-looks
returns-in_err-cut-clause-looks g c =
    let p = err_from_is_err_and c.from_residual.result c.from_residual.ensures.1 in
    rw p.1 (dump_failed _ _ c.args.sight _ c.args.place c.in_err-cut.field-0.0 p.0 c.in_err-cut.ensures.refused p.2)

pub returns-in-Ok-clause-looks : goal.returns-in-Ok-clause-looks
returns-in-Ok-clause-looks g c = dump_done _ _ _ c.args.place c.in_ok-cut.cut c.in_ok-cut.ensures.cut _ _ _ _ c.in-Ok.ensures.reports

pub returns-in-Err-clause-looks : goal.returns-in-Err-clause-looks
returns-in-Err-clause-looks g c =
    dump_unopened _ _ _ _ c.args.place c.in_ok-cut.cut c.in_ok-cut.ensures.cut c.in-Err.unopened.number c.in-Err.unopened.disk c.in-Err.ensures.refused.0
