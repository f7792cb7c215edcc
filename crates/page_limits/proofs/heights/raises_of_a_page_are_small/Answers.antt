use Rattle.lay_length.proofs.SmallExtents.{low-tree}
use Rattle.page_limits.proofs.HeightsSmall.{raises-small}
use Rattle.page_limits.proofs.heights.raises_of_a_page_are_small.Goals as goal

pub returns : goal.returns
returns c = raises-small c.args.tree.now (low-tree c.args.tree.now c.requires.small) c.args.world c.requires.sized
