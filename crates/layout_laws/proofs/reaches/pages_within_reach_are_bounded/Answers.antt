use Rattle.layout_laws.proofs.Reaching.{total_bounded, reach_bounded}
use Rattle.layout_laws.proofs.reaches.pages_within_reach_are_bounded.Goals as goal

pub returns-clause-total : goal.returns-clause-total
returns-clause-total c = total_bounded c.args.tree.now.styles c.args.tree.now.parents c.args.tree.now.fonts c.args.tree.now.boxes c.requires

pub returns-clause-each : goal.returns-clause-each
returns-clause-each c r e = reach_bounded c.args.tree.now.styles c.args.tree.now.parents c.args.tree.now.fonts c.args.tree.now.boxes c.args.at r c.requires e
