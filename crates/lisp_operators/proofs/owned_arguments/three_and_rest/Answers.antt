use Rattle.std.proofs.Common.{◌∷◌, ap, ◌∙◌}
use Rattle.lisp_operators.proofs.owned_arguments.three_and_rest.Goals as goal

pub returns-clause-value : goal.returns-clause-value
returns-clause-value c = c.in_ok-head.ensures.value ∙ ap (λ l. c.in_ok-head.head ∷ l) c.in_ok-second.ensures.value

pub returns-clause-arguments : goal.returns-clause-arguments
returns-clause-arguments c = λ u all.
    let first = c.in_ok-head.ensures.arguments u all in
    let others = c.in_ok-second.ensures.arguments u first.1 in
    (first.0, others.0, others.1, others.2)
