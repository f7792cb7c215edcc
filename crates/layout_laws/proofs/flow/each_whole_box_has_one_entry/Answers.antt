use Rattle.layout_laws.proofs.WholePage.{whole-entries}
use Rattle.layout_laws.proofs.flow.each_whole_box_has_one_entry.Goals as goal

pub returns : goal.returns
returns c = whole-entries c.args.tree.now c.args.world
