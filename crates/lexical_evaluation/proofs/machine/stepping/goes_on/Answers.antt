use Rattle.std.proofs.Common.{subst}
use Rattle.lexical_evaluation.specs.Machine.{ComesOn}
use Rattle.lexical_evaluation.specs.Arguments.{IsLeftOf}
use Rattle.lexical_evaluation.proofs.Stepping.{refused_step}
use Rattle.lexical_evaluation.proofs.machine.stepping.goes_on.Goals as goal

pub returns-in-Ok-clause-gives : goal.returns-in-Ok-clause-gives
returns-in-Ok-clause-gives c = λ w s o m comes. subst (ComesOn w s o m) c.in-Ok.is comes

pub returns-in-Ok-clause-arguments : goal.returns-in-Ok-clause-arguments
returns-in-Ok-clause-arguments c = λ u m left. subst (IsLeftOf u m) c.in-Ok.is left

pub returns-in-Err-clause-gives : goal.returns-in-Err-clause-gives
returns-in-Err-clause-gives c = λ w s o m comes. refused_step w s o m c.in-Err.error (subst (ComesOn w s o m) c.in-Err.is comes)
