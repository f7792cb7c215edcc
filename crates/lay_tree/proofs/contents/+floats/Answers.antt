use Rattle.std.proofs.Common.{arith}
use Rattle.std.proofs.lemmas.Grind.{common_steps}
use Rattle.lay_tree.proofs.ContentLemmas.{content-floats}
use Rattle.lay_tree.proofs.contents.+floats.Goals as goal

pub add_floats-returns : goal.add_floats-returns
add_floats-returns t c = let is = content-floats c.args.tree.now c.args.at in grind (arith, common_steps)
