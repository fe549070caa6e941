use Rattle.std.proofs.Common.{sym, subst}
use Rattle.lisp_operators.specs.EvaluationAnswers.{IsArgument}
use Rattle.lexical_evaluation.specs.Arguments.{AreArguments}
use Rattle.lexical_evaluation.proofs.Apart.{reversed_all}
use Rattle.lexical_evaluation.proofs.Handing.{popped}
use Rattle.lexical_evaluation.proofs.Beginning.{arguments_apart}
use Rattle.lexical_evaluation.proofs.machine.places.arguments.Goals as goal

pub returns-clause-forms : goal.returns-clause-forms
returns-clause-forms c =
    arguments_apart c.args.items.items c.reverse.new.self.items c.pop.new.self.items c.pop.result c.in-Some._head c.reverse.ensures.items c.pop.ensures.items c.in-Some.is

pub returns-clause-arguments : goal.returns-clause-arguments
returns-clause-arguments c = λ u are.
    (popped u c.reverse.new.self.items c.pop.new.self.items c.pop.result c.in-Some._head c.pop.ensures.items c.in-Some.is
    (subst (AreArguments u) (sym c.reverse.ensures.items) (reversed_all (IsArgument u) c.args.items.items are))).0
