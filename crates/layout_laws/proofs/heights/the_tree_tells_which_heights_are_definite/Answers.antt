use Rattle.layout_laws.proofs.Definite.{definite-is, auto-height-is}
use Rattle.layout_laws.proofs.heights.the_tree_tells_which_heights_are_definite.Goals as goal

pub returns-clause-definite : goal.returns-clause-definite
returns-clause-definite c = definite-is c.args.tree.now c.args.world c.args.at

pub returns-clause-auto : goal.returns-clause-auto
returns-clause-auto c = auto-height-is c.args.tree.now c.args.world c.args.at
