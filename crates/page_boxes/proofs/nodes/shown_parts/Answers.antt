use Rattle.std.proofs.Common.{◌∷◌, ◌++◌, ◌∙◌, [], length, ap, arith}
use Rattle.page_boxes.specs.Seen.{all_seen}
use Rattle.page_boxes.specs.steps.Nodes.{spot_around}
use Rattle.page_boxes.proofs.Turns.{nodes_turn}
use Rattle.page_boxes.proofs.nodes.shown_parts.Goals as goal

pub loop-at-preserved : goal.loop-at-preserved
loop-at-preserved c =
    let node = c.index-nodes-at.result in
    let within = c.loop-at-test.true in
    let size = ap length c.as_slice-nodes.ensures in
    let styles_size = ap length c.as_slice-styles.ensures in
    let styled = c.requires.styled in
    nodes_turn c.as_slice-nodes.result.now c.as_slice-styles.result.now c.loop-at.spots.items c.push.new.self.items (all_seen c.loop-at.parts.items) (all_seen c.add_part.new.parts.items) c.loop-at.at node c.index-styles-at.result c.spot_around-around.result
    within (omega (arith, within, size, styles_size, styled)) c.index-nodes-at.is c.index-styles-at.is
    (c.spot_around-around.ensures ∙ ap (λ spots. spot_around spots node.parent) c.deref.ensures.value)
    c.in_ok-add_part.ensures (c.in_ok-push.ensures.items ∙ ap (λ spot. c.loop-at.spots.items ++ spot ∷ []) c.spot_in.ensures)
    ∙ c.loop-at.invariant
