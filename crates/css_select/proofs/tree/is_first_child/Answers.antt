use Rattle.std.proofs.Common.{refl}
use Rattle.css_select.proofs.Nodes.{false_true, first_child, not_first}
use Rattle.css_select.proofs.tree.is_first_child.Goals as goal

pub returns-in-Some-last_sibling : goal.returns-in-Some-last_sibling
returns-in-Some-last_sibling c = (
  (λ e. false_true e),
  (λ f. absurd (not_first c.args.page.now.nodes c.in-Some.parent c.args.node c.in-Some-last_sibling.field-0 c.in-Some.ensures.is c.in-Some-last_sibling.ensures f)),
)

pub returns-in-None : goal.returns-in-None
returns-in-None c = ((λ e. first_child c.args.page.now.nodes c.in-Some.parent c.args.node c.in-Some.ensures.is c.in-None.ensures), (λ f. refl))

pub returns-in_default : goal.returns-in_default
returns-in_default c = ((λ e. false_true e), (λ f. absurd (c.in_default.ensures.is f.parent f.of_node)))
