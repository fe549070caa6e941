use Rattle.property_rows.proofs.Counted.{whole-double}
use Rattle.property_rows.proofs.tree.tree_of.Goals as goal

pub loop-size-preserved : goal.loop-size-preserved
loop-size-preserved c = whole-double c.loop-size.size c.loop-size.invariant
