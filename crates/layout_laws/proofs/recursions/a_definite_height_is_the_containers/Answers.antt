use Rattle.layout_laws.proofs.Upward.{definite-by-container}
use Rattle.layout_laws.proofs.recursions.a_definite_height_is_the_containers.Goals as goal

pub returns : goal.returns
returns c = definite-by-container c.args.tree.now c.args.world c.args.at c.requires.on_page
