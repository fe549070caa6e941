use Rattle.property_rows.proofs.tree.+turn.Given as goal

abbrev pub decreases-turn : goal.decreases-turn
decreases-turn l = l.size
