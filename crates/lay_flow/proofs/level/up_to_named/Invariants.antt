use Rattle.std.specs.Prelude.{length}
use Rattle.lay_flow.specs.Levels.{IsUpToNamed}
use Rattle.lay_flow.proofs.level.up_to_named.Given as goal

-- none of the floats that are left out is named
abbrev pub invariant-loop-part : goal.invariant-loop-part
invariant-loop-part g l = IsUpToNamed l.tree l.clear l.floats l.least l.part

abbrev pub decreases-loop-part : goal.decreases-loop-part
decreases-loop-part g l = length l.part
