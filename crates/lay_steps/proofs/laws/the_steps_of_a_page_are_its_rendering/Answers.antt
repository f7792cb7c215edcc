use Rattle.lay_steps.proofs.Tables.{page-same}
use Rattle.lay_steps.proofs.laws.the_steps_of_a_page_are_its_rendering.Goals as goal

pub returns : goal.returns
returns c = page-same c.args.tree.now c.args.world
