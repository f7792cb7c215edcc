use Rattle.lay_flow.proofs.independent.+room.Given as goal

abbrev pub decreases-room : goal.decreases-room
decreases-room g l = l.levels
