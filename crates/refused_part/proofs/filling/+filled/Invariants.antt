use Rattle.std.proofs.Common.{length}
use Rattle.refused_part.proofs.filling.+filled.Given as goal

abbrev pub decreases-filled : goal.decreases-filled
decreases-filled l = length l.place.now
