use Rattle.std.proofs.Common.{suc, length}
use Rattle.layout_laws.proofs.LowestBottoms.{stands}
use Rattle.layout_laws.proofs.clearance.a_cleared_box_stands_below_the_floats.Goals as goal

pub returns : goal.returns
returns c g run cb b passed d y h = stands g run d y cb b (suc (length g.tree.boxes)) passed h
