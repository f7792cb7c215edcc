use Rattle.lay_length.proofs.SmallExtents.{low-tree}
use Rattle.page_limits.proofs.HeightsSmall.{fonts-bounded}
use Rattle.page_limits.proofs.heights.fonts_of_a_page_are_small.Goals as goal

pub returns : goal.returns
returns c k on = fonts-bounded c.args.tree.now (low-tree c.args.tree.now c.requires.small) c.args.world c.requires.sized k on
