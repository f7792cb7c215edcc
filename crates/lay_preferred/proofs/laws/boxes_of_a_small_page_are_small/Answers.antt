use Rattle.lay_preferred.proofs.SmallPages.{small-boxes}
use Rattle.lay_preferred.proofs.laws.boxes_of_a_small_page_are_small.Goals as goal

pub returns : goal.returns
returns c = small-boxes c.args.tree.now c.requires.small
