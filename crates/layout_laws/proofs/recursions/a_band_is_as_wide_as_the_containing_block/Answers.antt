use Rattle.layout_laws.proofs.Rooms.{band-room}
use Rattle.layout_laws.proofs.recursions.a_band_is_as_wide_as_the_containing_block.Goals as goal

pub returns : goal.returns
returns c cb e = band-room c.args.tree.now c.args.world cb c.args.at c.args.kid c.requires.on_page c.requires.inside c.requires.container e
