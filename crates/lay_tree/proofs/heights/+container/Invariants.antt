use Rattle.lay_tree.proofs.heights.+container.Given as goal

abbrev pub decreases-container : goal.decreases-container
decreases-container l = l.levels
