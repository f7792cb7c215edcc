use Rattle.layout_laws.proofs.Entries.{blocks-entries}
use Rattle.layout_laws.proofs.flow.each_box_has_one_entry.Goals as goal

pub returns : goal.returns
returns c = blocks-entries c.args.tree.now c.requires c.args.world
