use Rattle.layout_laws.proofs.PreferredWidths.{replaced-widths}
use Rattle.layout_laws.proofs.widths.preferred_widths_of_a_replaced_box.Goals as goal

pub returns-clause-least : goal.returns-clause-least
returns-clause-least c = (replaced-widths c.args.tree.now c.args.world c.args.at c.requires.within c.requires.replaced).0

pub returns-clause-most : goal.returns-clause-most
returns-clause-most c = (replaced-widths c.args.tree.now c.args.world c.args.at c.requires.within c.requires.replaced).1
