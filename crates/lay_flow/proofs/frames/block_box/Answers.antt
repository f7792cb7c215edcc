use Rattle.std.proofs.Common.{◌^◌, IsTrue, ap, sym, subst, ◌∙◌, arith}
use Rattle.std.proofs.lemmas.Grind.{common_steps}
use Rattle.viz_calc.specs.World.{Reading}
use Rattle.layout_semantics.specs.DefiniteHeights.{clamped_height}
use Rattle.lay_frame.specs.Readings.{frame_at}
use Rattle.lay_width.specs.Readings.{option_at}
use Rattle.lay_line.proofs.Chains.{Chain, start, next}
use Rattle.page_limits.specs.Inline.{IsSmall}
use Rattle.lay_flow.specs.Low.{IsContextLow, IsFrameLow}
use Rattle.lay_flow.specs.Fits.{IsHeightFit, IsNear}
use Rattle.lay_flow.specs.Readings.{context_at}
use Rattle.lay_flow.proofs.Framed.{top-fits, top-near, top-small, known-tall, content-tall, block-small, place-fits}
use Rattle.lay_flow.proofs.frames.block_box.Goals.{in-Some, in-None}
use Rattle.lay_steps.specs.Flow.{block_of}
use Rattle.lay_flow.proofs.frames.block_box.Goals as goal

pub returns : goal.returns
unfolding block_of
returns g c =
    let at = g.S.Steady.at in
    let run = g.S.Steady.run in
    let tree = c.args.page.now.tree.now in
    let b = c.args.b in
    let frame = (λ (e : Reading). frame_at at c.args.shape.now e) in
    let end = (λ (e : Reading). context_at at c.args.end.now e) in
    let asks = (λ (e : Reading). IsHeightFit tree e.world b × (IsFrameLow (frame e) × IsContextLow (end e))) in
    let known = c.known_height.ensures in
    let one = start {asks = asks} known.goes known.cause (λ f e o. (f e o).0) in
    let two : Chain (run c.args.calc.now) (run c.match-known_height.calc) asks = elim c.match-known_height.branch [
      | in-Some w ↦ rw w.calc-is one
      | in-None w ↦
          rw w.calc-is (next (next one w.content_top-top.ensures.goes w.content_top-top.ensures.cause (λ f e o. top-fits (frame e) (f e o).1.0)) w.block_height-height.ensures.goes w.block_height-height.ensures.cause (λ f e o.
          (subst IsNear (sym (w.content_top-top.ensures.value e o)) (top-near (frame e) (f e o).1.0), (f e o).1.1.standing)))
    ] in
    let tall : (e : Reading) → IsTrue ((run c.match-known_height.calc).is_open e) → asks e → IsSmall (2 ^ 94) (clamped_height tree e.world b (at c.match-known_height.height e)) = λ e o a. elim c.match-known_height.branch [
      | in-Some w ↦
          let o1 = rw w.calc-is at o in
          rw w.height-is (known-tall tree e.world b (at w.in-Some.height e) a.0 (sym (known.value e o1) ∙ ap (λ r. option_at at r e) w.in-Some.is))
      | in-None w ↦
          let o3 = rw w.calc-is at o in
          let o2 = w.block_height-height.ensures.goes.closes e o3 in
          let o1 = w.content_top-top.ensures.goes.closes e o2 in
          let top = subst (IsSmall (2 ^ 92)) (sym (w.content_top-top.ensures.value e o2)) (top-small (frame e) a.1.0) in
          rw w.height-is (content-tall tree e.world b (at w.block_height-height.result e) a.0 (sym (known.value e o1) ∙ ap (λ r. option_at at r e) w.in-None.is)
          (subst (IsSmall (2 ^ 94)) (sym (w.block_height-height.ensures.value e o3)) (block-small (2 ^ 92) (2 ^ 94) w.joins_last_child.result (at w.content_top-top.result e) (end e).standing top a.1.1.standing (omega arith))))
    ] in
    let three = next two c.clamped-height.ensures.goes c.clamped-height.ensures.cause (λ f e o. (f e o).0) in
    let chain = next three c.place.ensures.goes c.place.ensures.cause (λ f e o.
    let a = f e o in
    let h = subst (IsSmall (2 ^ 94)) (sym (c.clamped-height.ensures.value e o)) (tall e (c.clamped-height.ensures.goes.closes e o) a) in
    place-fits (frame e) (at c.clamped-height.result e) a.1.0 h) in
    record {
      goes = chain.goes;
      value = grind (arith, common_steps);
      cause = chain.cause;
    }
