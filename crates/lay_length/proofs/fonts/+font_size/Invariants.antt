use Rattle.lay_length.proofs.fonts.+font_size.Given as goal

-- a parent comes before its children
abbrev pub decreases-font_size : goal.decreases-font_size
decreases-font_size g l = l.node
