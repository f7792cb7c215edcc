use Rattle.page_limits.proofs.WidthsSmall.{far-page}
use Rattle.page_limits.proofs.HeightsSmall.{heights-bounded}
use Rattle.page_limits.proofs.heights.heights_of_a_page_are_small.Goals as goal

pub returns : goal.returns
returns c k on whole = heights-bounded c.args.tree.now (far-page c.args.tree.now c.requires.small c.requires.few_characters) c.args.world c.requires.sized c.requires.narrow c.requires.low k on whole
