use Rattle.std.proofs.Common.{arith}
use Rattle.readtable_core.specs.Characters.{upper_case}
use Rattle.token_meaning.specs.Folding.{on_plain}
use Rattle.token_meaning.proofs.Loops.{one_more}
use Rattle.token_meaning.proofs.case.upcase.Goals as goal

pub loop-mark-preserved : goal.loop-mark-preserved
loop-mark-preserved c =
    rw c.upper.ensures
    (one_more (on_plain upper_case) c.args.marks.now c.loop-mark.marks c.loop-mark.mark-index (omega arith) (omega arith) c.loop-mark.invariant)
