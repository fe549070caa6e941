use Rattle.std.proofs.Common.{refl, sym, ◌∙◌}
use Rattle.lisp_object.specs.Datum.{object_of}
use Rattle.evaluator.specs.Value.{rest}
use Rattle.lexical_evaluation.specs.Values.{lambda_in, quoted_function_in}
use Rattle.lexical_evaluation.proofs.Callees.{callee_told, callee_lambda, callee_quoted, callee_valued}
use Rattle.lexical_evaluation.proofs.machine.applying.callee_of.Goals as goal

pub returns-then-is_headed_by_lambda-clause-gives : goal.returns-then-is_headed_by_lambda-clause-gives
returns-then-is_headed_by_lambda-clause-gives c =
    let x = object_of c.args.form in
    callee_told x c.written.result (λ rules around p. lambda_in rules around p (rest x))
    (λ rules around p plain. callee_lambda rules around p x plain (sym c.is_headed_by_lambda.ensures ∙ c.if-is_headed_by_lambda.true)) c.written.ensures.gives

pub returns-then-is_headed_by_function-clause-gives : goal.returns-then-is_headed_by_function-clause-gives
returns-then-is_headed_by_function-clause-gives c =
    let x = object_of c.args.form in
    callee_told x c.quoted.result (λ rules around p. quoted_function_in rules around p (rest x))
    (λ rules around p plain. callee_quoted rules around p x plain (sym c.is_headed_by_lambda.ensures ∙ c.if-is_headed_by_lambda.false) (sym c.is_headed_by_function.ensures ∙ c.if-is_headed_by_function.true)) c.quoted.ensures.gives

pub returns-clause-gives : goal.returns-clause-gives
returns-clause-gives c = (refl, λ rules around p plain. callee_valued rules around p (object_of c.args.form) plain (sym c.is_headed_by_lambda.ensures ∙ c.if-is_headed_by_lambda.false) (sym c.is_headed_by_function.ensures ∙ c.if-is_headed_by_function.false))

pub returns-then-is_headed_by_lambda-clause-arguments : goal.returns-then-is_headed_by_lambda-clause-arguments
returns-then-is_headed_by_lambda-clause-arguments c = λ u argument. c.written.ensures.arguments u argument

pub returns-then-is_headed_by_function-clause-arguments : goal.returns-then-is_headed_by_function-clause-arguments
returns-then-is_headed_by_function-clause-arguments c = λ u argument. c.quoted.ensures.arguments u argument
