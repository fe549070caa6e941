use Rattle.std.proofs.Common.{All, map, sym, ap, subst, ◌∙◌}
use Rattle.lisp_object.specs.Datum.{object_of}
use Rattle.lisp_object.proofs.ProperLists.{proper_list_items}
use Rattle.lisp_operators.specs.EvaluationAnswers.{IsProper}
use Rattle.evaluator.proofs.ListValues.{listed_items, no_items, all_proper}
use Rattle.evaluator.proofs.computed.into_items.Goals as goal

pub returns-in-Ok-clause-items : goal.returns-in-Ok-clause-items
returns-in-Ok-clause-items c = λ xs is.
    ap (map object_of) c.into_vec.ensures ∙ listed_items c.args.list c.in-Ok.items c.in-Ok._tail xs c.in-Ok.ensures.list c.requires is

pub returns-in-Ok-clause-proper : goal.returns-in-Ok-clause-proper
returns-in-Ok-clause-proper c =
    subst (All IsProper) (sym c.into_vec.ensures) (all_proper c.in-Ok.items (proper_list_items c.args.list c.in-Ok.items c.in-Ok._tail c.in-Ok.ensures.list c.requires))

pub returns-clause-items : goal.returns-clause-items
returns-clause-items c = λ xs is. ap (map object_of) c.new.ensures.items ∙ no_items c.args.list xs c.requires c.in-Err.ensures.other is
