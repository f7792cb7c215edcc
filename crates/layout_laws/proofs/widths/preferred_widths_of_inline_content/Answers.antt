use Rattle.layout_laws.proofs.PreferredWidths.{inline-widths}
use Rattle.layout_laws.proofs.widths.preferred_widths_of_inline_content.Goals as goal

pub returns-clause-least : goal.returns-clause-least
returns-clause-least c = (inline-widths c.args.tree.now c.args.world c.args.at c.requires.within c.requires.inline).0

pub returns-clause-most : goal.returns-clause-most
returns-clause-most c = (inline-widths c.args.tree.now c.args.world c.args.at c.requires.within c.requires.inline).1
