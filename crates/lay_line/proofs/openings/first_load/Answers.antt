use Rattle.std.proofs.Common.{ap, sym, subst, ◌∙◌}
use Rattle.viz_calc.specs.World.{Reading}
use Rattle.viz_calc.proofs.Runs.{Goes-then}
use Rattle.layout_semantics.specs.InlineContent.{float_boxes}
use Rattle.lay_line.specs.Contexts.{context_at}
use Rattle.lay_line.specs.Items.{bare_of}
use Rattle.lay_line.specs.Limits.{PlacesFit}
use Rattle.lay_line.specs.LinesFit.{FirstFits}
use Rattle.lay_line.specs.Readings.{held_at, line_extent_at, load_at, met_at, slot_at, pieces_at}
use Rattle.lay_line.specs.steps.Loading.{reaching_boxes}
use Rattle.lay_line.proofs.Chains.{start_but_mem, next_but_mem, but_mem}
use Rattle.lay_line.proofs.Filling.{behind_boxes}
use Rattle.lay_line.proofs.LineBegins.{first-load-is}
use Rattle.lay_line.proofs.OnLines.{zero_small}
use Rattle.lay_line.proofs.openings.first_load.Goals as goal

pub returns : goal.returns
unfolding context_at
returns g c = record {
  goes =
      let g1 = Goes-then _ _ _ c.strut-strut.ensures.goes c.extent_at_start-extent.ensures.goes in
      let g2 = Goes-then _ _ _ g1 c.copy_boxes-opened.ensures.goes in
      let g3 = Goes-then _ _ _ g2 c.nothing-empty.ensures.goes in
      let g4 = Goes-then _ _ _ g3 c.floats_of-floats.ensures.goes in
      Goes-then _ _ _ g4 c.with_segment.ensures.goes;
  value = λ e o.
      let at = g.S.Steady.at in
      let ctx = context_at at c.args.container.now e in
      let o1 = c.with_segment.ensures.goes.closes e o in
      let o2 = c.floats_of-floats.ensures.goes.closes e o1 in
      let o3 = c.nothing-empty.ensures.goes.closes e o2 in
      let o4 = c.copy_boxes-opened.ensures.goes.closes e o3 in
      let o5 = c.extent_at_start-extent.ensures.goes.closes e o4 in
      first-load-is at e ctx c.args.opening.first.now (slot_at at c.args.slot.now e) (met_at at c.args.opening.met e) c.args.opening.opened.now (held_at at c.args.opening.held e)
      c.ahead.result c.split_at.result.1.now c.as_slice.result.now (held_at at c.nothing-empty.result e) (line_extent_at at c.extent_at_start-extent.result e) c.copy_boxes-opened.result.items
      (load_at at c.with_segment.result e)
      c.ahead.ensures.value c.split_at.ensures.back (c.as_slice.ensures.value ∙ c.floats_of-floats.ensures.value e o1) (c.nothing-empty.ensures.value e o2)
      (c.extent_at_start-extent.ensures.value e o4 ∙ ap (λ x. reaching_boxes ctx x c.args.opening.opened.now) (c.strut-strut.ensures.value e o5))
      (c.copy_boxes-opened.ensures.value e o3) (c.with_segment.ensures.value e o);
  cause =
      let at = g.S.Steady.at in
      let ctx = (λ (e : Reading). context_at at c.args.container.now e) in
      let slot = (λ (e : Reading). slot_at at c.args.slot.now e) in
      let met = (λ (e : Reading). met_at at c.args.opening.met e) in
      let first = c.args.opening.first.now in
      let strut = c.strut-strut.ensures in
      let extent = c.extent_at_start-extent.ensures in
      let opened = c.copy_boxes-opened.ensures in
      let empty = c.nothing-empty.ensures in
      let floats = c.floats_of-floats.ensures in
      let asks = (λ (e : Reading). FirstFits (ctx e) (slot e) (met e) (pieces_at at first e)) in
      let one = start_but_mem {asks = asks} strut.goes (but_mem strut.cause) (λ f e o. (f e o).0) in
      let two = next_but_mem one extent.goes (but_mem extent.cause) (λ f e o. (f e o).1.0) in
      let three = next_but_mem two opened.goes opened.cause (λ f e o. tt) in
      let four = next_but_mem three empty.goes (but_mem empty.cause) (λ f e o. (zero_small, tt)) in
      let five = next_but_mem four floats.goes floats.cause (λ f e o. tt) in
      (next_but_mem five c.with_segment.ensures.goes c.with_segment.ensures.cause (λ f e o.
      let fits = (f e o).1 in (
        (
          subst (λ l. PlacesFit (ctx e) (met e).floats (slot e).least (slot e).top l) (sym (c.as_slice.ensures.value ∙ (floats.value e o ∙ ap (λ l. float_boxes (bare_of l)) c.split_at.ensures.back)))
              (behind_boxes (ctx e) (met e).floats (slot e).least (slot e).top at e first c.ahead.result fits.1.0),
          fits.1.1,
        ),
        fits.0,
      ))).cause;
}
