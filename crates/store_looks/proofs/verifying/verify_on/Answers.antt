use Rattle.std.proofs.lemmas.Result.{err_from_is_err_and}
use Rattle.store_looks.proofs.Looking.{verify_done, verify_memory, verify_unopened}
use Rattle.store_looks.proofs.verifying.verify_on.Goals as goal

pub returns-in_err-store-clause-looks : goal.returns-in_err-store-clause-looks
returns-in_err-store-clause-looks g c =
    let p = err_from_is_err_and c.from_residual.result c.from_residual.ensures.1 in
    rw p.1 (verify_unopened _ _ c.args.sight c.in_err-store.field-0.0 p.0 p.2 c.in_err-store.ensures.refused)

pub returns-in_err-text-clause-looks : goal.returns-in_err-text-clause-looks
returns-in_err-text-clause-looks g c =
    let p = err_from_is_err_and c.from_residual-in_err-text.result c.from_residual-in_err-text.ensures.1 in
    rw p.1 (verify_memory _ _ c.args.sight p.0 p.2)

pub returns-clause-looks : goal.returns-clause-looks
returns-clause-looks g c =
    verify_done _ _ c.in_ok-store.store c.args.sight c.in_ok-store.ensures.opened _ c.verified_of-told.result c.in_ok-text.text
    c.as_slice.result.now c.as_slice.ensures.value c.verified_of-told.ensures c.in_ok-text.was _ _ c.write_told.result c.write_told.ensures
