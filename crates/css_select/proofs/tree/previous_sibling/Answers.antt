use Rattle.css_select.proofs.Nodes.{previous_by}
use Rattle.css_select.proofs.tree.previous_sibling.Goals as goal

pub returns-in-Some : goal.returns-in-Some
returns-in-Some c = previous_by c.args.page.now.nodes c.in-Some.parent c.args.node c.in-Some.ensures.is c.last_sibling.result c.last_sibling.ensures

pub returns-in-None : goal.returns-in-None
returns-in-None c = λ s h. c.in-None.ensures.is h.parent h.of_node
