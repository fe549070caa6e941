use Rattle.property_rows.proofs.tree.+slot_of.Given as goal

abbrev pub decreases-slot_of : goal.decreases-slot_of
decreases-slot_of l = l.size
