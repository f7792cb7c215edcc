use Rattle.layout_laws.proofs.Rooms.{room-by-parent}
use Rattle.layout_laws.proofs.recursions.the_room_of_a_box_is_its_containers_content.Goals as goal

pub returns : goal.returns
returns c = room-by-parent c.args.tree.now c.args.world c.args.at c.args.kid c.requires.on_page c.requires.inside
