use Rattle.token_meaning.proofs.Folds.{folded_ascii}
use Rattle.token_meaning.proofs.case.fold_case.Goals as goal

pub returns-clause-ascii : goal.returns-clause-ascii
returns-clause-ascii c e = rw c.fold.ensures (folded_ascii c.args.case c.args.marks.now e)
