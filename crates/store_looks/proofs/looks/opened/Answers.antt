use Rattle.store_looks.proofs.Looking.{unopens}
use Rattle.store_looks.proofs.looks.opened.Goals as goal

pub returns-in-Err-clause-refused : goal.returns-in-Err-clause-refused
returns-in-Err-clause-refused g c = unopens _ _ c.args.sight c.in-Err.unopened.number c.in-Err.unopened.disk c.in-Err.ensures.refused
