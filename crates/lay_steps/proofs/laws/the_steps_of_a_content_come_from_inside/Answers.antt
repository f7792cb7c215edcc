use Rattle.lay_steps.proofs.Levels.{content-is}
use Rattle.lay_steps.proofs.laws.the_steps_of_a_content_come_from_inside.Goals as goal

pub returns : goal.returns
returns c apart cb top s = content-is c.args.tree.now c.args.world apart c.args.at cb top s c.requires.within
