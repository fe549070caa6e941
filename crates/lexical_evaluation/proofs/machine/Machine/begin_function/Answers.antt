use Rattle.lexical_evaluation.specs.Arguments.{AreArguments}
use Rattle.lexical_evaluation.proofs.Handing.{no_arguments}
use Rattle.std.proofs.Common.{ap, sym, ◌∙◌, subst}
use Rattle.lisp_operators.specs.EvaluationAnswers.{objects}
use Rattle.evaluator.specs.Operations.{action_of}
use Rattle.lexical_evaluation.specs.declared.frame.Target.TheVariants.{Operation as AnOperation}
use Rattle.lexical_evaluation.specs.Values.{action_in, made_of, values_in}
use Rattle.lexical_evaluation.specs.Machine.{comes_to, around, point_of, to_come, gathered_in}
use Rattle.lexical_evaluation.specs.Ways.{ways, parts_in, performed}
use Rattle.lexical_evaluation.proofs.Beginning.{performed_calls}
use Rattle.lexical_evaluation.proofs.Going.{comes_as}
use Rattle.lexical_evaluation.proofs.machine.Machine.begin_function.Goals as goal

pub returns-clause-gives : goal.returns-clause-gives
returns-clause-gives c = λ names head s steps.
    let m = c.args.self.now in
    let w = ways names in
    let rules = w.rules m.deeper in
    let p = point_of m s in
    let forms = to_come c.args.forms.items in
    let target = AnOperation c.args.operation c.args.place c.args.steps in
    comes_as w s (comes_to w m (action_in head p (action_of names c.args.operation) forms (parts_in rules (around m) p forms)))
    (comes_to w m (gathered_in rules w.does (around m) target (objects c.new-values.result.items) forms p)) c.gather.new.self c.gather.result
    (ap (comes_to w m)
    (performed_calls names head p forms (parts_in rules (around m) p forms) c.args.place c.args.operation (c.requires names)
    ∙ ap (λ n. made_of n (values_in rules (around m) p forms) (performed names c.args.operation c.args.place)) (sym steps)
    ∙ ap (λ l. gathered_in rules w.does (around m) target (objects l) forms p) (sym c.new-values.ensures.items)))
    (c.gather.ensures.gives w s)

pub returns-clause-arguments : goal.returns-clause-arguments
returns-clause-arguments c = λ u hand given. c.gather.ensures.arguments u hand (tt, given, subst (AreArguments u) (sym c.new-values.ensures.items) (no_arguments u))
