-- How far the flow has come, in the steps' own data.
use Rattle.layout_semantics.specs.Flow as landed
use Rattle.layout_semantics.specs.Flow.{Progress}
use Rattle.lay_steps.specs.Runs.{run_of}
use Rattle.lay_steps.specs.Flow.{Standing, at_top, below, Context}

-- the same place, with two numbers for its run of margins
abbrev pub squeezed : landed.Standing → Standing
squeezed (landed.at_top y cleared) = at_top y cleared
squeezed (landed.below edge run stuck) = below edge (run_of run) stuck

abbrev pub context_of : Progress → Context
context_of p = record { standing = squeezed p.standing; floats = p.floats; least = p.least; baseline = p.baseline }
