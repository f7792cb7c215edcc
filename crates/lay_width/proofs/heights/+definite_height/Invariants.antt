use Rattle.lay_width.proofs.heights.+definite_height.Given as goal

abbrev pub decreases-definite_height : goal.decreases-definite_height
decreases-definite_height g l = l.levels
