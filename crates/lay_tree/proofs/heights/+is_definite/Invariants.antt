use Rattle.lay_tree.proofs.heights.+is_definite.Given as goal

abbrev pub decreases-is_definite : goal.decreases-is_definite
decreases-is_definite l = l.levels
