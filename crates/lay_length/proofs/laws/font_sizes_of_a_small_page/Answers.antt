use Rattle.lay_length.proofs.SmallExtents.{low-tree, font-low}
use Rattle.lay_length.proofs.laws.font_sizes_of_a_small_page.Goals as goal

pub returns : goal.returns
returns c = λ w s node t. font-low c.args.tree.now (low-tree c.args.tree.now c.requires.small) w s node t
