use Rattle.std.proofs.Common.{◌∙◌, ap, subst, sym}
use Rattle.std.proofs.lemmas.Bool.{le-ltb}
use Rattle.page_boxes.specs.steps.Extents.{AreCapped, most, own_in, reach_of}
use Rattle.page_boxes.specs.steps.Tables.{held}
use Rattle.page_boxes.proofs.Turns.{capped_more, far_turn}
use Rattle.page_boxes.proofs.reaches.first_far.Goals as goal

pub loop-inner-preserved : goal.loop-inner-preserved
loop-inner-preserved c =
    let sizes = c.args.sizes.now in
    let styles = c.args.styles.now in
    let fonts = c.args.fonts.now in
    let inner = c.inner-item.result in
    let reach = c.reach_in-reach.result in (
      far_turn sizes styles fonts c.args.total c.loop-inner.reaches.items c.push.new.self.items c.args.boxes.now c.loop-inner.inner-index inner reach
          c.loop-inner-test.true c.inner-item.is
          (c.reach_in-reach.ensures.value
          ∙ (ap (λ own. reach_of styles inner own c.reach_around.result) c.own_extent-own.ensures.value
          ∙ ap (λ around. reach_of styles inner (own_in sizes styles fonts inner) around) (c.reach_around.ensures.value ∙ ap (λ reaches. held reaches inner.parent c.args.total) c.deref.ensures.value)))
          (le-ltb most reach c.if-reach-gt-MOST.false) c.in_ok-push.ensures.items
          ∙ c.loop-inner.invariant.0,
      subst AreCapped (sym c.in_ok-push.ensures.items) (capped_more c.loop-inner.reaches.items reach c.loop-inner.invariant.1 c.reach_in-reach.ensures.bound),
    )
