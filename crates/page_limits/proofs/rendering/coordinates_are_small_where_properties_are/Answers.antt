use Rattle.page_limits.proofs.WholePage.{page-within}
use Rattle.page_limits.proofs.rendering.coordinates_are_small_where_properties_are.Goals as goal

pub returns : goal.returns
returns c = page-within c.args.tree.now c.args.world c.requires.root c.requires.boxes c.requires.lines c.requires.raises c.requires.few_boxes c.requires.few_characters
