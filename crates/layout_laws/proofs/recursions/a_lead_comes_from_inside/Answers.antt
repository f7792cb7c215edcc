use Rattle.layout_laws.proofs.LeadLevels.{lead-is}
use Rattle.layout_laws.proofs.recursions.a_lead_comes_from_inside.Goals as goal

pub returns : goal.returns
returns c passed cb = lead-is c.args.tree.now c.args.world passed cb c.args.at c.requires.within
