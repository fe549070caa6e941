use Rattle.std.proofs.Common.{◌≡◌, List, map, sym, subst}
use Rattle.lisp_object.specs.Object.{Object}
use Rattle.lisp_object.specs.Datum.{object_of}
use Rattle.lisp_operators.specs.EvaluationAnswers.{Answers, done}
use Rattle.lisp_operators.specs.Evaluation.{and_then}
use Rattle.lisp_operators.specs.Properties.{list}
use Rattle.evaluator.specs.Operators.{computed_value}
use Rattle.evaluator.proofs.ListValues.{listed_then, listed_stops}
use Rattle.evaluator.proofs.computed.computed_of_list.Goals as goal

pub returns-in-Ok-clause-gives : goal.returns-in-Ok-clause-gives
returns-in-Ok-clause-gives c = λ s values is.
    let so = listed_then c.args.function values c.in-Ok.evaluated s c.requires.any (subst (λ r. Answers done r s (and_then values list)) c.in-Ok.is is) in
    let items : map object_of c.into_items.result.items ≡ so.0 = c.into_items.ensures.items so.0 so.1 in
    subst (Answers done c.after.result s) (sym so.2)
    (c.after.ensures.gives s (computed_value c.args.function so.0 s)
    (subst (λ (xs : List Object). Answers done c.computed.result s (computed_value c.args.function xs s)) items (c.computed.ensures.gives s)))

pub returns-in-Err-clause-gives : goal.returns-in-Err-clause-gives
returns-in-Err-clause-gives c = λ s values is.
    listed_stops c.args.function values c.in-Err.error s c.requires.any (subst (λ r. Answers done r s (and_then values list)) c.in-Err.is is)
