use Rattle.std.proofs.Common.{◌≡◌, ◌+◌, ◌∷◌, drop, ap, ◌∙◌}
use Rattle.viz_base.proofs.ListLemmas.{drop_at}
use Rattle.page_boxes.specs.Seen.{seen, all_seen}
use Rattle.page_boxes.proofs.Lists.{boxes_step, count_step}
use Rattle.page_boxes.proofs.places.boxes_of.Goals as goal

pub loop-at-preserved : goal.loop-at-preserved
loop-at-preserved c =
    let parts = c.args.parts.now in
    let at = c.loop-at.at in
    let next : all_seen (drop at parts) ≡ seen c.index-parts-at.result ∷ all_seen (drop (at + 1) parts) = ap all_seen (drop_at parts at c.index-parts-at.result c.loop-at-test.true c.index-parts-at.is) in (
      boxes_step c.loop-at.boxes.items _ c.loop-at.places.items _ c.args.leads.now at (seen c.index-parts-at.result) _ _ _ next c.lead_at.ensures c.in_ok-add_part.ensures.boxes c.in_ok-add_part.ensures.places ∙ c.loop-at.invariant.0,
      count_step c.loop-at.boxes.items _ c.loop-at.places.items c.args.leads.now at (seen c.index-parts-at.result) _ _ _ next c.lead_at.ensures c.in_ok-add_part.ensures.boxes ∙ c.loop-at.invariant.1,
    )
