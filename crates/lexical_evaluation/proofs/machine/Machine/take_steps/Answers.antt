use Rattle.std.proofs.Common.{arith}
use Rattle.lexical_evaluation.proofs.machine.Machine.take_steps.Goals as goal

pub returns : goal.returns
returns c = c.spend.ensures c.args.steps (omega (arith, c.ranges.steps))
