use Rattle.std.proofs.Common.{◌≡◌, ◌+◌, ◌∷◌, ◌∙◌, None, ap, arith, drop, false, length}
use Rattle.std.proofs.lemmas.List.{with_items_is}
use Rattle.viz_base.proofs.ListLemmas.{drop_at}
use Rattle.page_boxes.specs.Seen.{all_seen, seen}
use Rattle.page_boxes.specs.steps.Leads.{lead_of}
use Rattle.page_boxes.specs.steps.Tables.{held, put}
use Rattle.page_boxes.proofs.LeadSteps.{length_put}
use Rattle.page_boxes.proofs.Turns.{leads_turn}
use Rattle.page_boxes.proofs.leads.leads_by.Goals as goal

pub loop-at-preserved : goal.loop-at-preserved
loop-at-preserved c =
    let parts = c.args.parts.now in
    let at = c.loop-at.at in
    let led = c.loop-at.led.items in
    let part = seen c.index-parts-at.result in
    let lead = c.lead_of-lead.result in
    let next : all_seen (drop at parts) ≡ seen c.index-parts-at.result ∷ all_seen (drop (at + 1) parts) = ap all_seen (drop_at parts at c.index-parts-at.result c.loop-at-test.true c.index-parts-at.is) in
    let kept = ap length c.put.ensures ∙ length_put c.deref_mut.result.now part.parent lead in
    let len = c.deref_mut.ensures.len in
    leads_turn led _ c.loop-at.leads.items c.push.new.self.items c.args.blocks.now c.args.ahead.now at part _ _ lead next
    (c.lead_of-lead.ensures
    ∙ (ap (λ first. lead_of first c.held-has_blocks.result c.is_ahead_at-is_ahead.result part.level part.node) (c.held.ensures ∙ ap (λ table. held table part.parent None) c.deref.ensures.value)
    ∙ (ap (λ blocks. lead_of (held led part.parent None) blocks c.is_ahead_at-is_ahead.result part.level part.node) c.held-has_blocks.ensures
    ∙ ap (λ ahead. lead_of (held led part.parent None) (held c.args.blocks.now part.parent false) ahead part.level part.node) c.is_ahead_at-is_ahead.ensures)))
    (with_items_is c.loop-at.led c.put.new.table (omega (arith, kept, len)) ∙ (c.put.ensures ∙ ap (λ table. put table part.parent lead) c.deref_mut.ensures.value))
    c.in_ok-push.ensures.items
    ∙ c.loop-at.invariant
