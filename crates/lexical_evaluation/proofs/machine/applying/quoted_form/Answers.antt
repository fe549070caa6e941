use Rattle.std.proofs.Common.{sym, ◌∙◌}
use Rattle.lisp_object.specs.Object.{pair, nil}
use Rattle.lisp_object.specs.Datum.{object_of}
use Rattle.evaluator.specs.Value.{rest}
use Rattle.lexical_evaluation.specs.Values.{lambda_in, quoted_function_in}
use Rattle.lexical_evaluation.proofs.Callees.{told_as, quoted_lambda, quoted_pair, quoted_name}
use Rattle.lexical_evaluation.proofs.machine.applying.quoted_form.Goals as goal

pub returns-then-is_headed_by_lambda-clause-gives : goal.returns-then-is_headed_by_lambda-clause-gives
returns-then-is_headed_by_lambda-clause-gives c =
    let x = object_of c.args.named in
    told_as c.written.result (λ rules around p. quoted_function_in rules around p (pair x nil)) (λ rules around p. lambda_in rules around p (rest x))
    (λ rules around p. quoted_lambda rules around p x (sym c.is_headed_by_lambda.ensures ∙ c.if-is_headed_by_lambda.true)) c.written.ensures.gives

pub returns-then-is_pair-clause-gives : goal.returns-then-is_pair-clause-gives
returns-then-is_pair-clause-gives c = λ rules around p.
    quoted_pair rules around p (object_of c.args.named) (sym c.is_headed_by_lambda.ensures ∙ c.if-is_headed_by_lambda.false) (sym c.is_pair.ensures ∙ c.if-is_pair.true)

pub returns-clause-gives : goal.returns-clause-gives
returns-clause-gives c = (c.requires, λ rules around p. quoted_name rules around p (object_of c.args.named) (sym c.is_pair.ensures ∙ c.if-is_pair.false))

pub returns-then-is_headed_by_lambda-clause-arguments : goal.returns-then-is_headed_by_lambda-clause-arguments
returns-then-is_headed_by_lambda-clause-arguments c = λ u argument. c.written.ensures.arguments u argument
