use Rattle.store_looks.proofs.Looking.{look_done, look_failed, look_without_seed}
use Rattle.store_looks.proofs.looks.look_at.Goals as goal

pub returns-in-Err-clause-looks : goal.returns-in-Err-clause-looks
returns-in-Err-clause-looks g c = look_without_seed _ _ _ _ _ _ c.args.looked.folder.now c.args.looked.look _ _ c.in-Err.ensures

pub returns-in-Err-sight_of-clause-looks : goal.returns-in-Err-sight_of-clause-looks
returns-in-Err-sight_of-clause-looks g c =
    look_failed _ _ _ _ _ c.args.looked.folder.now _ _ _ c.args.looked.look c.sight_of.result c.in-Err-sight_of.error c.in-Err-sight_of.is c.sight_of.ensures.sees

pub returns-in-Ok-sight_of-clause-looks : goal.returns-in-Ok-sight_of-clause-looks
returns-in-Ok-sight_of-clause-looks g c =
    look_done _ _ _ _ _ c.args.looked.folder.now _ _ _ c.args.looked.look c.sight_of.result c.in-Ok-sight_of.sight c.look_into.result c.in-Ok-sight_of.is c.sight_of.ensures.sees c.look_into.ensures.looks
