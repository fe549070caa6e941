use Rattle.property_rows.proofs.tree.+gone_before_next.Given as goal

abbrev pub decreases-gone_before_next : goal.decreases-gone_before_next
decreases-gone_before_next l = l.size
