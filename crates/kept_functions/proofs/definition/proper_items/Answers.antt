use Rattle.std.proofs.Common.{Some, is_some, ap, ◌∙◌}
use Rattle.lisp_object.specs.declared.datum.Datum
use Rattle.lisp_operators.specs.EvaluationAnswers.{objects}
use Rattle.kept_functions.proofs.Items.{list_items_of, dotted_items_of, list_items_proper}
use Rattle.kept_functions.proofs.definition.proper_items.Goals as goal

pub returns-in-Some-clause-value : goal.returns-in-Some-clause-value
returns-in-Some-clause-value c = dotted_items_of c.args.datum.now c.in-List.items c.in-List.tail c.in-List.is c.requires (ap is_some c.in-Some.is)

pub returns-in-None-clause-value : goal.returns-in-None-clause-value
returns-in-None-clause-value c =
    ap (λ xs. Some (objects xs)) c.as_slice.ensures ∙ list_items_of c.args.datum.now c.in-List.items (c.in-List.is ∙ ap (Datum.List c.in-List.items) c.in-None.is)

pub returns-in-None-clause-proper : goal.returns-in-None-clause-proper
returns-in-None-clause-proper c =
    list_items_proper c.args.datum.now c.in-List.items c.as_slice.result.now c.in-List.tail c.in-List.is c.as_slice.ensures c.requires
