use Rattle.std.proofs.Common.{ap}
use Rattle.lisp_operators.specs.Effects.{effect}
use Rattle.prevalence_store.proofs.meaning.Transactions.{leaves_refused}
use Rattle.prevalence_store.proofs.transaction.forget_silently.Goals as goal

pub returns-in-Ok-clause-gives : goal.returns-in-Ok-clause-gives
returns-in-Ok-clause-gives g c = ap effect c.in-Ok.ensures.gives

pub returns-in-Err-clause-gives : goal.returns-in-Err-clause-gives
returns-in-Err-clause-gives g c = leaves_refused _ _ _ c.in-Err.ensures.gives
