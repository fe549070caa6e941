use Rattle.std.proofs.Common.{All, sym, subst}
use Rattle.lisp_operators.specs.EvaluationAnswers.{IsArgument}
use Rattle.evaluator.proofs.QuotedKeys.{call_proper}
use Rattle.evaluator.proofs.Steps.{items_arguments}
use Rattle.evaluator.proofs.direct.call.Goals as goal

pub returns-clause-proper : goal.returns-clause-proper
returns-clause-proper c = call_proper c.args.form.now c.in-List.items c.as_slice-items.result.now c.in-List.tail c.in-List.is c.requires c.as_slice-items.ensures

pub returns-clause-arguments : goal.returns-clause-arguments
returns-clause-arguments c = λ u is. subst (All (IsArgument u)) (sym c.as_slice-items.ensures) (items_arguments u c.args.form.now c.in-List.items c.in-List.tail c.in-List.is is)
