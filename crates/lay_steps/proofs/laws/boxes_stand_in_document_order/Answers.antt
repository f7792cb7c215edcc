use Rattle.lay_steps.proofs.InOrder.{tree_in_order}
use Rattle.lay_steps.proofs.laws.boxes_stand_in_document_order.Goals as goal

pub returns : goal.returns
returns c = tree_in_order c.args.tree.now
