use Rattle.std.proofs.Common.{arith}
use Rattle.token_meaning.specs.Folding.{lower_case, on_plain}
use Rattle.token_meaning.proofs.Loops.{one_more}
use Rattle.token_meaning.proofs.case.downcase.Goals as goal

pub loop-mark-preserved : goal.loop-mark-preserved
loop-mark-preserved c =
    rw c.lower.ensures
    (one_more (on_plain lower_case) c.args.marks.now c.loop-mark.marks c.loop-mark.mark-index (omega arith) (omega arith) c.loop-mark.invariant)
