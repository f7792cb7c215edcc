use Rattle.std.proofs.Common.{◌+◌, ◌∙◌, drop, sym, ap}
use Rattle.viz_base.proofs.ListLemmas.{drop_at}
use Rattle.css_cascade.specs.steps.Present.{marked_nodes, present_in}
use Rattle.css_cascade.proofs.present.present_in.Goals as goal

pub loop-node-init : goal.loop-node-init
loop-node-init c = ap (λ p. marked_nodes p c.as_slice-node-items.result.now) c.in_ok-present.ensures ∙ ap present_in c.as_slice-node-items.ensures

pub loop-node-preserved : goal.loop-node-preserved
loop-node-preserved c =
    let nodes = c.as_slice-node-items.result.now in
    let k = c.loop-node.node-index in
    ap (λ p. marked_nodes p (drop (k + 1) nodes)) c.in_ok-mark_body.ensures
    ∙ ap (marked_nodes c.loop-node.present.items) (sym (drop_at nodes k c.node-item.result c.loop-node-test.true c.node-item.is))
    ∙ c.loop-node.invariant
