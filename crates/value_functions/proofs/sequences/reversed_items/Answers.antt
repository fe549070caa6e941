use Rattle.std.proofs.Common.{reverse, ap, ◌∙◌}
use Rattle.lisp_operators.specs.EvaluationAnswers.{objects}
use Rattle.value_functions.proofs.Joins.{objects-reverse}
use Rattle.value_functions.proofs.sequences.reversed_items.Goals as goal

pub returns-clause-value : goal.returns-clause-value
returns-clause-value c =
    ap objects c.reverse.ensures.items ∙ objects-reverse c.in_ok-copies.copies.items ∙ ap (λ xs. reverse (objects xs)) c.in_ok-copies.ensures
