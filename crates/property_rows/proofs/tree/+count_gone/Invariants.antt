use Rattle.property_rows.proofs.tree.+count_gone.Given as goal

abbrev pub decreases-count_gone : goal.decreases-count_gone
decreases-count_gone l = l.size
