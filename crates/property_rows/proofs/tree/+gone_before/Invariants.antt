use Rattle.property_rows.proofs.tree.+gone_before.Given as goal

abbrev pub decreases-gone_before : goal.decreases-gone_before
decreases-gone_before l = l.size
