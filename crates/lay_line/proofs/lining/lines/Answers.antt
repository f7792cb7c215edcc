use Rattle.std.proofs.Common.{◌++◌, None, List, length, ap, ◌∙◌, sym, subst}
use Rattle.std.specs.List.{AllByRecursion}
use Rattle.viz_calc.specs.World.{Reading}
use Rattle.layout_semantics.specs.InlineContent.{content}
use Rattle.layout_semantics.specs.Lines.{SoFar as SoFarOf, before_all}
use Rattle.viz_calc.proofs.Runs.{Goes-then}
use Rattle.layout_semantics.specs.Segments.{may_part}
use Rattle.lay_float.specs.Readings.{floats_at}
use Rattle.lay_line.specs.Contexts.{context_at}
use Rattle.lay_line.specs.Items.{items_of, bare_of}
use Rattle.lay_line.specs.Fits.{WidthFits}
use Rattle.lay_line.specs.LinesFit.{RestFits, LinesFit}
use Rattle.lay_line.specs.Lining.{so_far_at}
use Rattle.lay_line.specs.Readings.{pieces_at, parts_at, entries_at}
use Rattle.lay_line.specs.steps.Leaping.{AreWide}
use Rattle.lay_line.specs.steps.Lining.{laying}
use Rattle.lay_line.specs.steps.Loading.{bare, tallest_by}
use Rattle.lay_line.specs.steps.Marks.{marks}
use Rattle.lay_line.specs.steps.Measured.{Measured, measured}
use Rattle.lay_line.specs.steps.Words.{width_in}
use Rattle.lay_line.proofs.AllLines.{lines-laid, start_of}
use Rattle.lay_line.proofs.Chains.{start_but_mem, next_but_mem, but_mem}
use Rattle.lay_line.proofs.Growing.{tallest_fits, y_small, least_begins_small}
use Rattle.lay_line.proofs.LoadSteps.{bare-same}
use Rattle.lay_line.proofs.Wide.{items_wide}
use Rattle.lay_line.proofs.Parts.{bare-measured}
use Rattle.lay_line.proofs.lining.lines.Goals as goal

pub lay-end-requires : goal.lay-end-requires
lay-end-requires g c = λ e o.
    let at = g.S.Steady.at in
    let ctx = context_at at c.args.container.now e in
    let o1 = c.tallest-tall.ensures.goes.closes e (c.copy.ensures.goes.closes e (c.copy-2.ensures.goes.closes e o)) in
    let is = ap (λ ps. pieces_at at ps e) c.as_slice-4.ensures.value ∙ c.measure-pieces.ensures.value e (c.marks_in-marks.ensures.goes.closes e o1) in
    subst AreWide (sym is) (items_wide ctx (items_of c.as_slice.result.now))

pub returns : goal.returns
unfolding context_at
returns g c = record {
  goes =
      let g1 = Goes-then _ _ _ c.items_in-items.ensures.goes c.measure-pieces.ensures.goes in
      let g2 = Goes-then _ _ _ g1 c.marks_in-marks.ensures.goes in
      let g3 = Goes-then _ _ _ g2 c.tallest-tall.ensures.goes in
      let g4 = Goes-then _ _ _ g3 c.copy.ensures.goes in
      let g5 = Goes-then _ _ _ g4 c.copy-2.ensures.goes in
      Goes-then _ _ _ g5 c.lay-end.ensures.goes;
  value = λ e o.
      let at = g.S.Steady.at in
      let ctx = context_at at c.args.container.now e in
      let o1 = c.lay-end.ensures.goes.closes e o in
      let o2 = c.copy-2.ensures.goes.closes e o1 in
      let o3 = c.copy.ensures.goes.closes e o2 in
      let o4 = c.tallest-tall.ensures.goes.closes e o3 in
      let o5 = c.marks_in-marks.ensures.goes.closes e o4 in
      let o6 = c.measure-pieces.ensures.goes.closes e o5 in
      let pieces = ap (λ ps. pieces_at at ps e) c.as_slice-4.ensures.value ∙ (c.measure-pieces.ensures.value e o5 ∙ ap (λ l. measured (width_in ctx) (items_of l)) c.as_slice.ensures.value) in
      let stops = c.as_slice-5.ensures.value ∙ (c.marks_in-marks.ensures.value e o4 ∙ ap (λ l. marks (may_part ctx.tree) None None (items_of l)) c.as_slice-2.ensures.value) in
      let tall = c.tallest-tall.ensures.value e o3 ∙ ap (λ ps. tallest_by ctx (bare_of ps)) (c.as_slice-3.ensures.value ∙ sym c.as_slice-4.ensures.value) in
      let added = c.lay-end.ensures.added e o ∙ ap (λ l. entries_at at l e ++ (laying (length c.as_slice-4.result.now) ctx (at c.tallest-tall.result e)
      (start_of (at c.copy.result e) (at c.copy-2.result e) (floats_at at c.args.floats e) c.new.result.items) (parts_at at (record { pieces = c.as_slice-4.result; marks = c.as_slice-5.result }) e)).entries) c.new-entries.ensures in
      lines-laid at e ctx (at c.args.y.now e) (at c.args.least.now e) (floats_at at c.args.floats e) (items_of c.items_in-items.result.items) (record { pieces = c.as_slice-4.result; marks = c.as_slice-5.result }) (at c.tallest-tall.result e)
      (at c.copy.result e) (at c.copy-2.result e) c.new.result.items (so_far_at at c.lay-end.result e) (entries_at at c.lay-end.new.entries e)
      (c.items_in-items.ensures.value e o6) pieces stops tall (c.copy.ensures.value e o2) (c.copy-2.ensures.value e o1) c.new.ensures.items (c.lay-end.ensures.after e o) added;
  cause =
      let at = g.S.Steady.at in
      let ctx = (λ (e : Reading). context_at at c.args.container.now e) in
      let y = (λ (e : Reading). at c.args.y.now e) in
      let least = (λ (e : Reading). at c.args.least.now e) in
      let floats = (λ (e : Reading). floats_at at c.args.floats e) in
      let found = (λ (e : Reading). content (ctx e).tree (ctx e).container) in
      let items = c.items_in-items.ensures in
      let pieces = c.measure-pieces.ensures in
      let marks = c.marks_in-marks.ensures in
      let tall = c.tallest-tall.ensures in
      let from = c.copy.ensures in
      let highest = c.copy-2.ensures in
      let one = start_but_mem {asks = λ (e : Reading). LinesFit (ctx e) (y e) (least e) (floats e)} items.goes items.cause (λ f. tt) in
      let two = next_but_mem one pieces.goes pieces.cause (λ f e o.
      subst (λ l. AllByRecursion (WidthFits (ctx e)) l) (sym (ap items_of c.as_slice.ensures.value ∙ items.value e o)) (f e o).widths) in
      let three = next_but_mem two marks.goes marks.cause (λ f e o. tt) in
      let four = next_but_mem three tall.goes (but_mem tall.cause) (λ f e o. tallest_fits (ctx e) (y e) (least e) (floats e) (bare_of c.as_slice-3.result.now) (f e o)) in
      let five = next_but_mem four from.goes (but_mem from.cause) (λ f e o. (y_small (ctx e) (y e) (least e) (floats e) (f e o), tt)) in
      let six = next_but_mem five highest.goes (but_mem highest.cause) (λ f e o. (least_begins_small (ctx e) (y e) (least e) (floats e) (f e o), tt)) in
      (next_but_mem six c.lay-end.ensures.goes c.lay-end.ensures.cause (λ f e o.
      let o1 = highest.goes.closes e o in
      let o2 = from.goes.closes e o1 in
      let o3 = tall.goes.closes e o2 in
      let o4 = marks.goes.closes e o3 in
      let o5 = pieces.goes.closes e o4 in
      let all = pieces.value e o4 ∙ ap (λ l. measured (width_in (ctx e)) l) (ap items_of c.as_slice.ensures.value ∙ items.value e o5) in
      let third = ap (λ ps. pieces_at at ps e) c.as_slice-3.ensures.value ∙ all in
      let fourth = ap (λ ps. pieces_at at ps e) c.as_slice-4.ensures.value ∙ all in
      let tall_is = tall.value e o2 ∙ ap (tallest_by (ctx e)) (sym (bare-same at e c.as_slice-3.result.now) ∙ (ap bare third ∙ bare-measured (width_in (ctx e)) (found e))) in
      let begun = ap (λ z. start_of z (at c.copy-2.result e) (floats e) c.new.result.items) (from.value e o1)
      ∙ (ap (λ z. start_of (y e) z (floats e) c.new.result.items) (highest.value e o) ∙ ap (start_of (y e) (least e) (floats e)) c.new.ensures.items) in
      subst (λ (l : List Measured). RestFits (ctx e) (at c.tallest-tall.result e) (start_of (at c.copy.result e) (at c.copy-2.result e) (floats e) c.new.result.items) l) (sym fourth)
      (subst (λ (x : SoFarOf). RestFits (ctx e) (at c.tallest-tall.result e) x (measured (width_in (ctx e)) (found e))) (sym begun)
      (subst (λ x. RestFits (ctx e) x (before_all (y e) (least e) (floats e)) (measured (width_in (ctx e)) (found e))) (sym tall_is) (f e o).rest)))).cause;
}
