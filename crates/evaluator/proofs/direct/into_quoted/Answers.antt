use Rattle.std.proofs.Common.{None, codes, ap, sym, subst, ◌∙◌, arith}
use Rattle.lisp_object.specs.Object.{pair, symbol}
use Rattle.package_table.specs.Table.{common_lisp}
use Rattle.lisp_operators.specs.EvaluationAnswers.{IsArgument}
use Rattle.evaluator.proofs.Steps.{items_arguments}
use Rattle.evaluator.proofs.QuotedKeys.{one_argument}
use Rattle.evaluator.proofs.direct.into_quoted.Goals as goal

pub returns-in-Ok-clause-object : goal.returns-in-Ok-clause-object
returns-in-Ok-clause-object c =
    c.in-Ok.ensures.object ∙ ap (pair (symbol common_lisp (codes "QUOTE"))) (one_argument c.in-Ok.items.items c.remove.result c.in-Ok.ensures.counted c.remove.ensures.value)

pub returns-in-Ok-clause-argument : goal.returns-in-Ok-clause-argument
returns-in-Ok-clause-argument c = λ u is.
    subst (IsArgument u) (sym c.remove.ensures.value)
    (items_arguments u c.args.form c.in-Ok.items.items None c.in-Ok.ensures.form is 1 c.remove.result (omega (arith, c.in-Ok.ensures.counted)))
