use Rattle.layout_laws.proofs.FlowLevels.{flow-is}
use Rattle.layout_laws.proofs.recursions.a_flow_comes_from_inside.Goals as goal

pub returns : goal.returns
returns c cb top p = flow-is c.args.tree.now c.args.world c.args.at cb top p c.requires.within
