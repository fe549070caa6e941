use Rattle.std.proofs.Common.{Some, ap, ◌∙◌}
use Rattle.lisp_operators.specs.EvaluationAnswers.{objects}
use Rattle.value_functions.specs.Sequences.{items}
use Rattle.value_functions.proofs.Joins.{vector_sequence, vector_items_proper, list_sequence}
use Rattle.value_functions.proofs.sequences.sequence.Goals as goal

pub returns-in-Vector-clause-value : goal.returns-in-Vector-clause-value
returns-in-Vector-clause-value c =
    ap (λ xs. Some (items (objects xs))) c.as_slice-in-Vector.ensures ∙ vector_sequence c.args.datum.now c.in-Vector.items c.in-Vector.is

pub returns-in-Vector-clause-proper : goal.returns-in-Vector-clause-proper
returns-in-Vector-clause-proper c =
    vector_items_proper c.args.datum.now c.in-Vector.items c.as_slice-in-Vector.result.now c.in-Vector.is c.as_slice-in-Vector.ensures c.requires

pub returns-in-List-clause-value : goal.returns-in-List-clause-value
returns-in-List-clause-value c =
    c.list_in.ensures.value ∙ list_sequence c.args.datum.now c.in-List.items c.in-List.tail c.in-List.is c.requires
