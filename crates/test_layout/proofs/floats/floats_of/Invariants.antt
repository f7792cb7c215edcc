use Rattle.std.proofs.Common.{◌≡◌, None}
use Rattle.test_layout.proofs.floats.floats_of.Given as goal

abbrev pub invariant-loop-value : goal.invariant-loop-value
invariant-loop-value l = l.floats.ended ≡ None
