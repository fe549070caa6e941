use Rattle.std.proofs.Common.{unwrap_or, subst}
use Rattle.lisp_object.specs.Object.{nil}
use Rattle.lisp_operators.specs.EvaluationAnswers.{Answers, done}
use Rattle.lisp_operators.specs.Evaluation.{gives}
use Rattle.evaluator.specs.Direct.{property_value}
use Rattle.evaluator.proofs.direct.get_directly.Goals as goal

pub returns-in-None-clause-gives : goal.returns-in-None-clause-gives
returns-in-None-clause-gives c =
    let s = c.args.world.now.0 in
    c.seen.ensures.gives s (property_value c.args.property s) (subst (λ o. Answers done c.nothing.result s (gives (unwrap_or o nil) s)) c.in-None.ensures.value (c.nothing.ensures.gives s))
