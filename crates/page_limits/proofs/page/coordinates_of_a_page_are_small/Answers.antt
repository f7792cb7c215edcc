use Rattle.page_limits.proofs.PageSmall.{coordinates-small}
use Rattle.page_limits.proofs.page.coordinates_of_a_page_are_small.Goals as goal

pub returns : goal.returns
returns c = coordinates-small c.args.tree.now c.args.world c.requires.small c.requires.few_characters c.requires.narrow c.requires.sized c.requires.low
