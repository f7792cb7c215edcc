use Rattle.std.proofs.Common.{refl}
use Rattle.layout_laws.proofs.auto_heights.floats_and_empty_blocks_add_no_height.Goals as goal

pub returns-clause-float : goal.returns-clause-float
returns-clause-float c tree w inside cb top p k joins f = rw f refl

pub returns-clause-through : goal.returns-clause-through
returns-clause-through c tree w inside cb top p k edge run f t n s = rw (f, t, n, s) refl
