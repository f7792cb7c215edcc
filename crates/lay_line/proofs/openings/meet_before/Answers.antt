use Rattle.std.proofs.Common.{ap, sym, subst, ◌∙◌}
use Rattle.viz_calc.specs.World.{Reading}
use Rattle.layout_semantics.specs.InlineContent.{float_boxes}
use Rattle.lay_float.specs.Readings.{floats_at}
use Rattle.lay_line.specs.Contexts.{context_at}
use Rattle.lay_line.specs.Items.{bare_of}
use Rattle.lay_line.specs.Limits.{PlacesFit}
use Rattle.lay_line.specs.Lining.{begun_at}
use Rattle.lay_line.specs.Readings.{pieces_at}
use Rattle.lay_line.specs.steps.Loading.{bare}
use Rattle.lay_line.proofs.Chains.{start_but_mem, next_but_mem}
use Rattle.lay_line.proofs.Filling.{ahead_places}
use Rattle.lay_line.proofs.LineBegins.{before-is, none-met}
use Rattle.lay_line.specs.steps.Loading.{ahead}
use Rattle.lay_line.specs.steps.Lining.{met_before}
use Rattle.lay_line.proofs.openings.meet_before.Goals as goal

pub returns : goal.returns
unfolding context_at ahead met_before
returns g c =
    let at = g.S.Steady.at in
    let ctx = (λ (e : Reading). context_at at c.args.container.now e) in
    let floats = (λ (e : Reading). floats_at at c.args.floats e) in
    let least = (λ (e : Reading). at c.args.begun.now.least e) in
    let y = (λ (e : Reading). at c.args.begun.now.y e) in
    let first = c.args.first.now in
    let boxes = c.floats_of-boxes.ensures in
    let asks = (λ (e : Reading). PlacesFit (ctx e) (floats e) (least e) (y e) (float_boxes (bare (pieces_at at first e)))) in
    let one = start_but_mem {asks = asks} boxes.goes boxes.cause (λ f e o. tt) in
    let chain = (next_but_mem one c.place_each.ensures.goes c.place_each.ensures.cause (λ f e o.
    subst (λ l. PlacesFit (ctx e) (floats e) (least e) (y e) l) (sym (c.as_slice.ensures.value ∙ (boxes.value e o ∙ ap (λ l. float_boxes (bare_of l)) c.split_at.ensures.front)))
    (ahead_places (ctx e) (floats e) (least e) (y e) at e first c.ahead.result (f e o)))) in
    record {
      goes = chain.goes;
      value = λ e o.
          let at = g.S.Steady.at in
          let ctx = context_at at c.args.container.now e in
          let o1 = c.place_each.ensures.goes.closes e o in
          before-is at e ctx c.args.first.now (begun_at at c.args.begun.now (floats_at at c.args.floats e) e) c.ahead.result c.split_at.result.0.now c.as_slice.result.now _ _
          c.ahead.ensures.value c.split_at.ensures.front (c.as_slice.ensures.value ∙ c.floats_of-boxes.ensures.value e o1)
          (none-met at e c.new.result.items c.new-2.result.items (floats_at at c.args.floats e) c.new.ensures.items c.new-2.ensures.items) (c.place_each.ensures.value e o);
      cause = chain.cause;
    }
