use Rattle.std.proofs.Common.{arith}
use Rattle.lay_steps.proofs.Tables.{table-served}
use Rattle.lay_steps.proofs.laws.what_stands_outside_the_flow_is_laid_out_once.Goals as goal

pub returns : goal.returns
returns c = table-served c.args.tree.now c.args.world c.args.at (omega arith) c.requires.on_page c.requires.container
