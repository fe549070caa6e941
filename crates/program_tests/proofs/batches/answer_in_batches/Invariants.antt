use Rattle.std.proofs.Common.{length}
use Rattle.program_tests.proofs.batches.answer_in_batches.Given as goal

abbrev pub decreases-batches : goal.decreases-batches
decreases-batches g l = length l.left
