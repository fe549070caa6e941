use Rattle.std.proofs.Common.{refl}
use Rattle.std.proofs.lemmas.Result.{err_from_is_err_and}
use Rattle.store_looks.proofs.Looking.{backs_up, backup_failed, backup_unopened}
use Rattle.store_looks.proofs.looks.back_up.Goals as goal

pub returns-in_err-store : goal.returns-in_err-store
returns-in_err-store g c =
    let p = err_from_is_err_and c.from_residual.result c.from_residual.ensures.1 in
    rw p.1 (backup_unopened _ _ c.args.sight _ _ c.in_err-store.field-0.0 p.0 p.2 c.in_err-store.ensures.refused)

pub returns-in_err-made : goal.returns-in_err-made
returns-in_err-made g c =
    let p = err_from_is_err_and c.from_residual-in_err-made.result c.from_residual-in_err-made.ensures.1 in
    rw p.1 (backup_failed _ _ c.args.sight c.in_ok-store.store c.in_ok-store.ensures.opened _ _ _ c.in_err-made.field-0.0 c.backed_up-made.result c.backed_up-made.ensures c.in_err-made.was p.0 p.2)

pub returns : goal.returns
returns g c = backs_up _ _ c.args.sight c.in_ok-store.store c.in_ok-store.ensures.opened _ _ _ c.backed_up-made.result c.backed_up-made.ensures c.in_ok-made.was _ refl
