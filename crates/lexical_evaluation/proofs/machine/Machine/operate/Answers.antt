use Rattle.lexical_evaluation.proofs.Safe.{answered_holds, performed_safe}
use Rattle.lexical_evaluation.proofs.Handing.{all_values}
use Rattle.lisp_operators.specs.EvaluationAnswers.{objects}
use Rattle.lexical_evaluation.specs.Ways.{performed}
use Rattle.lexical_evaluation.proofs.machine.Machine.operate.Goals as goal

pub returns-clause-gives : goal.returns-clause-gives
returns-clause-gives c = λ w.
    let s = c.args.world.now.0 in
    c.made.ensures.gives w s c.perform-made.new.world.0 (performed c.args.names.now c.args.operation c.args.place (objects c.args.values.items) s) c.perform-made.ensures.gives

pub returns-clause-arguments : goal.returns-clause-arguments
returns-clause-arguments c = λ hand.
    let s = c.args.world.now.0 in
    let names = c.args.names.now in
    let xs = objects c.args.values.items in
    c.made.ensures.arguments c.perform-made.new.world.0.packages
    (answered_holds c.args.self.now s c.perform-made.new.world.0 (performed names c.args.operation c.args.place xs s)
    (performed_safe names c.requires.names c.args.place c.args.operation xs s c.soundness.ensures.present (all_values s.packages c.args.values.items c.requires.values))
    hand c.perform-made.result c.perform-made.ensures.gives c.perform-made.ensures.proper)
