use Rattle.layout_laws.proofs.PreferredWidths.{by_sort}
use Rattle.layout_laws.proofs.recursions.preferred_widths_come_from_inside.Goals as goal

pub returns : goal.returns
returns c = by_sort c.args.tree.now c.args.world c.args.at c.requires.within
