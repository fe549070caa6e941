use Rattle.std.proofs.Common.{arith}
use Rattle.lisp_object.specs.declared.refusal.TheConstants.{ARGUMENT_COUNT}
use Rattle.lisp_operators.specs.EvaluationAnswers.{objects}
use Rattle.lexical_evaluation.specs.Machine.{named_by_first, point_of}
use Rattle.lexical_evaluation.specs.Ways.{ways}
use Rattle.lexical_evaluation.proofs.Finishing.{keeps_refused, no_first}
use Rattle.lexical_evaluation.proofs.machine.Machine.call_first.Goals as goal

pub returns-then-is_empty-clause-gives : goal.returns-then-is_empty-clause-gives
returns-then-is_empty-clause-gives c =
    let m = c.args.self.now in
    let s = c.args.world.now.0 in
    let w = ways c.args.names.now in
    let ds = c.args.values.items in
    keeps_refused w s s m m (λ rules seen p. named_by_first rules (objects ds) p) ARGUMENT_COUNT (no_first (w.rules m.deeper) ds (point_of m s) (grind (arith, c.is_empty.ensures, c.if-is_empty.true)))
