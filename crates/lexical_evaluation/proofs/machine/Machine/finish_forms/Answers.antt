use Rattle.std.proofs.Common.{sym, subst}
use Rattle.lisp_operators.specs.EvaluationAnswers.{IsArgument}
use Rattle.lexical_evaluation.specs.Arguments.{AreArguments, MayFinish}
use Rattle.lexical_evaluation.proofs.Apart.{reversed_all}
use Rattle.lexical_evaluation.proofs.machine.Machine.finish_forms.Goals as goal

pub returns-clause-arguments : goal.returns-clause-arguments
returns-clause-arguments c = λ u hand given.
    (hand, (subst (MayFinish u c.args.target) (sym c.reverse.ensures.items) given.0, subst (AreArguments u) (sym c.reverse.ensures.items) (reversed_all (IsArgument u) c.args.forms.items given.1)))
