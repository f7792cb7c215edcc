use Rattle.lay_line.proofs.shifts.+shift_to.Given as goal

abbrev pub decreases-shift_to : goal.decreases-shift_to
decreases-shift_to g l = l.levels
