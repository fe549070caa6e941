use Rattle.std.proofs.Common.{◌++◌, sym, ap, ◌∙◌}
use Rattle.lisp_operators.specs.EvaluationAnswers.{objects}
use Rattle.lisp_operators.specs.Members.{symbols_in}
use Rattle.kept_functions.specs.Environments.{binding}
use Rattle.lexical_evaluation.specs.Machine.{around, point_of, to_come, progn_in}
use Rattle.lexical_evaluation.proofs.Going.{Meaning, goes_over, goes_seen}
use Rattle.lexical_evaluation.proofs.Scopes.{bound_around}
use Rattle.lexical_evaluation.proofs.machine.Machine.written_body.Goals as goal

pub returns-clause-gives : goal.returns-clause-gives
returns-clause-gives c =
    let m = c.args.self.now in
    let made = c.in_ok-made.made.items in
    let xs = symbols_in c.args.variables.now in
    let vs = objects c.args.values.items in
    let forms = to_come c.args.forms.items in
    let f : Meaning = λ does rules seen p. progn_in rules (binding xs vs seen) forms p in
    let g : Meaning = λ does rules seen p. progn_in rules seen forms p in
    goes_over m c.sequence.new.self c.sequence.result f g c.scope.new.self
    (λ w s. goes_seen m c.scope.new.self made f g w s c.in_ok-scope.ensures.sees
    (ap (λ e. progn_in (w.rules m.deeper) e forms (point_of m s)) (bound_around xs vs (around m) ∙ ap (λ e. e ++ around m) (sym c.in_ok-made.ensures.gives))))
    c.sequence.ensures.gives

pub returns-clause-arguments : goal.returns-clause-arguments
returns-clause-arguments c = λ u hand given. c.sequence.ensures.arguments u (c.in_ok-scope.ensures.arguments u hand (c.in_ok-made.ensures.arguments u given.1)) given.0
