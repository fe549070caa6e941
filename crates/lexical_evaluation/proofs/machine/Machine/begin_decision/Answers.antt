use Rattle.lexical_evaluation.specs.Arguments.{AreArguments}
use Rattle.lexical_evaluation.proofs.Handing.{no_arguments}
use Rattle.std.proofs.Common.{ap, sym, subst}
use Rattle.lisp_object.specs.Object.{list_of}
use Rattle.lisp_operators.specs.EvaluationAnswers.{objects}
use Rattle.evaluator.specs.Operators.{first}
use Rattle.evaluator.specs.declared.decision.Decision.TheVariants.{And, Or, Cond, When, Unless, Prog1, Assert}
use Rattle.kept_functions.specs.Counting.{here, then_on}
use Rattle.lexical_evaluation.specs.declared.frame.Target.TheVariants.{First}
use Rattle.lexical_evaluation.specs.Values.{values_in}
use Rattle.lexical_evaluation.specs.Machine.{around, point_of, to_come, gathered_in}
use Rattle.lexical_evaluation.specs.Ways.{ways}
use Rattle.lexical_evaluation.proofs.Choosing.{decided_as}
use Rattle.lexical_evaluation.proofs.Going.{Meaning, goes_as}
use Rattle.lexical_evaluation.proofs.machine.Machine.begin_decision.Goals as goal

pub returns-in-And-clause-gives : goal.returns-in-And-clause-gives
returns-in-And-clause-gives c = λ names head s. decided_as c.args.self.now c.begin_search.new.self c.begin_search.result c.args.forms.items names s head c.args.decision And c.in-And.is (c.begin_search.ensures.gives (ways names) s)

pub returns-in-Or-clause-gives : goal.returns-in-Or-clause-gives
returns-in-Or-clause-gives c = λ names head s. decided_as c.args.self.now c.begin_search-in-Or.new.self c.begin_search-in-Or.result c.args.forms.items names s head c.args.decision Or c.in-Or.is (c.begin_search-in-Or.ensures.gives (ways names) s)

pub returns-in-Cond-clause-gives : goal.returns-in-Cond-clause-gives
returns-in-Cond-clause-gives c = λ names head s. decided_as c.args.self.now c.begin_clauses.new.self c.begin_clauses.result c.args.forms.items names s head c.args.decision Cond c.in-Cond.is (c.begin_clauses.ensures.gives (ways names) s)

pub returns-in-When-clause-gives : goal.returns-in-When-clause-gives
returns-in-When-clause-gives c = λ names head s. decided_as c.args.self.now c.guard.new.self c.guard.result c.args.forms.items names s head c.args.decision When c.in-When.is (c.guard.ensures.gives (ways names) s)

pub returns-in-Unless-clause-gives : goal.returns-in-Unless-clause-gives
returns-in-Unless-clause-gives c = λ names head s. decided_as c.args.self.now c.guard-in-Unless.new.self c.guard-in-Unless.result c.args.forms.items names s head c.args.decision Unless c.in-Unless.is (c.guard-in-Unless.ensures.gives (ways names) s)

pub returns-in-Assert-clause-gives : goal.returns-in-Assert-clause-gives
returns-in-Assert-clause-gives c = λ names head s. decided_as c.args.self.now c.begin_assert.new.self c.begin_assert.result c.args.forms.items names s head c.args.decision Assert c.in-Assert.is (c.begin_assert.ensures.gives (ways names) s)

pub returns-in-Prog1-clause-gives : goal.returns-in-Prog1-clause-gives
returns-in-Prog1-clause-gives c = λ names head s.
    let m = c.args.self.now in
    let forms = to_come c.args.forms.items in
    let f : Meaning = λ does rules seen p. then_on (values_in rules seen p forms) (λ xs later. here (first (list_of xs)) later) in
    let g : Meaning = λ does rules seen p. gathered_in rules does seen First (objects c.new-values.result.items) forms p in
    decided_as m c.gather.new.self c.gather.result c.args.forms.items names s head c.args.decision Prog1 c.in-Prog1.is
    (goes_as m c.gather.new.self c.gather.result f g
    (λ w s. ap (λ l. gathered_in (w.rules m.deeper) w.does (around m) First (objects l) forms (point_of m s)) (sym c.new-values.ensures.items)) c.gather.ensures.gives (ways names) s)

pub returns-in-And-clause-arguments : goal.returns-in-And-clause-arguments
returns-in-And-clause-arguments c = λ u hand given. c.begin_search.ensures.arguments u hand given

pub returns-in-Or-clause-arguments : goal.returns-in-Or-clause-arguments
returns-in-Or-clause-arguments c = λ u hand given. c.begin_search-in-Or.ensures.arguments u hand given

pub returns-in-Cond-clause-arguments : goal.returns-in-Cond-clause-arguments
returns-in-Cond-clause-arguments c = λ u hand given. c.begin_clauses.ensures.arguments u hand given

pub returns-in-When-clause-arguments : goal.returns-in-When-clause-arguments
returns-in-When-clause-arguments c = λ u hand given. c.guard.ensures.arguments u hand given

pub returns-in-Unless-clause-arguments : goal.returns-in-Unless-clause-arguments
returns-in-Unless-clause-arguments c = λ u hand given. c.guard-in-Unless.ensures.arguments u hand given

pub returns-in-Assert-clause-arguments : goal.returns-in-Assert-clause-arguments
returns-in-Assert-clause-arguments c = λ u hand given. c.begin_assert.ensures.arguments u hand given

pub returns-in-Prog1-clause-arguments : goal.returns-in-Prog1-clause-arguments
returns-in-Prog1-clause-arguments c = λ u hand given. c.gather.ensures.arguments u hand (tt, given, subst (AreArguments u) (sym c.new-values.ensures.items) (no_arguments u))
