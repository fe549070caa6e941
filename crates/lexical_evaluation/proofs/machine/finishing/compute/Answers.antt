use Rattle.std.proofs.Common.{sym, subst}
use Rattle.std.proofs.lemmas.List.Sums.{list_all-from_AllPass}
use Rattle.lisp_object.specs.Datum.{is_proper}
use Rattle.lisp_operators.specs.Evaluation.{gives}
use Rattle.lisp_operators.specs.EvaluationAnswers.{Answers, done, objects}
use Rattle.lisp_operators.specs.Properties.{list}
use Rattle.evaluator.specs.Operators.{computed}
use Rattle.lexical_evaluation.proofs.Thens.{also_false}
use Rattle.lexical_evaluation.proofs.machine.finishing.compute.Goals as goal

pub list-requires : goal.list-requires
list-requires c = list_all-from_AllPass is_proper c.args.values.items c.requires

pub returns-then-is_none-clause-gives : goal.returns-then-is_none-clause-gives
returns-then-is_none-clause-gives c = λ s.
    let xs = objects c.args.values.items in
    subst (Answers done c.computed_of_list.result s) (also_false (computed c.args.function xs s))
    (c.computed_of_list.ensures.gives s (gives xs s) (subst (Answers done c.list.result s) (sym (also_false (list xs s))) (c.list.ensures.gives s)))
