use Rattle.layout_laws.proofs.PreferredWidths.{block-widths}
use Rattle.layout_laws.proofs.widths.preferred_widths_of_blocks.Goals as goal

pub returns-clause-least : goal.returns-clause-least
returns-clause-least c = (block-widths c.args.tree.now c.args.world c.args.at c.requires.within c.requires.blocks).0

pub returns-clause-most : goal.returns-clause-most
returns-clause-most c = (block-widths c.args.tree.now c.args.world c.args.at c.requires.within c.requires.blocks).1
