use Rattle.std.proofs.Common.{IsTrue, ◌++◌, fold, flat_map, ap, sym, subst, ◌∙◌}
use Rattle.viz_calc.proofs.Runs.{Goes-then}
use Rattle.layout_semantics.specs.Flow.{raised}
use Rattle.lay_frame.specs.Readings.{boxes_at}
use Rattle.lay_float.specs.Readings.{floats_at, option_at}
use Rattle.layout_laws.specs.PlacedFloats.{ArePlacedAfter}
use Rattle.lay_float.proofs.Agreeing.{placed-later}
use Rattle.lay_line.specs.Readings.{entries_at}
use Rattle.lay_steps.specs.Flow.{line_tops}
use Rattle.lay_line.specs.Lining.{laid_at}
use Rattle.lay_flow.specs.Readings.{apart_at, context_at, standing_at}
use Rattle.layout_semantics.specs.Lines.{LineList}
use Rattle.viz_calc.specs.World.{Reading}
use Rattle.viz_calc.specs.Renderings.{band_at}
use Rattle.lay_line.proofs.Chains.{but_mem, start_but_mem, next_but_mem}
use Rattle.lay_flow.specs.Fits.{IsEntryLow, IsNear}
use Rattle.lay_flow.specs.Low.{AreLevelsLow}
use Rattle.lay_flow.specs.WalkFits.{InLinesFit}
use Rattle.std.specs.List.{AllByRecursion}
use Rattle.lay_steps.specs.Flow.{entry_of}
use Rattle.lay_flow.proofs.InLines.{lines-placed, context-after, boxes-after}
use Rattle.lay_flow.proofs.lines.in_lines.Goals as goal

pub returns-clause-agrees : goal.returns-clause-agrees
returns-clause-agrees g c = λ e o.
    let at = g.S.Steady.at in
    let page = c.args.page.now in
    let old = floats_at at c.args.context.now.floats e in
    let o3 = c.below-standing.ensures.goes.closes e (c.raised_by-least.ensures.goes.closes e (c.add_entries.ensures.goes.closes e o)) in
    let after = c.lines_in-lines.ensures.value e o3 in
    placed-later old (floats_at at c.lines_in-lines.result.floats e) c.args.context.now.floats.ended
    (subst (ArePlacedAfter old) (sym (ap (λ (l : LineList). l.floats) after)) (lines-placed page.tree.now e.world (apart_at at page.apart.now e) c.args.b (band_at at c.args.cb.now e) (at c.args.top.now e) (context_at at c.args.context.now e)))
    (c.requires.agrees e (c.lines_in-lines.ensures.goes.closes e o3))

pub returns-clause-goes : goal.returns-clause-goes
returns-clause-goes g c =
    Goes-then _ _ _ (Goes-then _ _ _ (Goes-then _ _ _ c.lines_in-lines.ensures.goes c.below-standing.ensures.goes) c.raised_by-least.ensures.goes) c.add_entries.ensures.goes

pub returns-clause-context : goal.returns-clause-context
returns-clause-context g c = λ e o.
    let at = g.S.Steady.at in
    let page = c.args.page.now in
    let laid = c.lines_in-lines.result in
    let o1 = c.add_entries.ensures.goes.closes e o in
    let o2 = c.raised_by-least.ensures.goes.closes e o1 in
    let o3 = c.below-standing.ensures.goes.closes e o2 in
    context-after page.tree.now e.world (apart_at at page.apart.now e) c.args.b (band_at at c.args.cb.now e) (at c.args.top.now e) (context_at at c.args.context.now e)
    (laid_at at laid e) (standing_at at c.below-standing.result e) (option_at at c.raised_by-least.result e)
    (c.below-standing.ensures.value e o2)
    (c.raised_by-least.ensures.value e o1
    ∙ (ap (λ es. fold raised (option_at at c.take.result e) (flat_map line_tops (entries_at at es e))) c.as_slice.ensures
    ∙ ap (λ x. fold raised (option_at at x e) (flat_map line_tops (entries_at at laid.lines.entries e))) (c.take.ensures.value ∙ c.lines_in-lines.ensures.least)))
    (c.lines_in-lines.ensures.value e o3)

pub returns-clause-boxes : goal.returns-clause-boxes
returns-clause-boxes g c = λ e o.
    let at = g.S.Steady.at in
    let page = c.args.page.now in
    let apart = apart_at at page.apart.now e in
    let laid = c.lines_in-lines.result in
    let o1 = c.add_entries.ensures.goes.closes e o in
    let o2 = c.raised_by-least.ensures.goes.closes e o1 in
    let o3 = c.below-standing.ensures.goes.closes e o2 in
    let old = boxes_at at c.args.out.now.items e in
    c.add_entries.ensures.value e o
    ∙ (ap (λ es. old ++ flat_map (entry_of page.tree.now e.world apart) (entries_at at es e)) c.into_vec.ensures
    ∙ ap (λ bs. old ++ bs) (boxes-after page.tree.now e.world apart c.args.b (band_at at c.args.cb.now e) (at c.args.top.now e) (context_at at c.args.context.now e) (laid_at at laid e) (c.lines_in-lines.ensures.value e o3)))

pub returns-clause-cause : goal.returns-clause-cause
returns-clause-cause g c =
    let at = g.S.Steady.at in
    let page = c.args.page.now in
    let tree = page.tree.now in
    let b = c.args.b in
    let cb = (λ (e : Reading). band_at at c.args.cb.now e) in
    let y = (λ (e : Reading). at c.args.top.now e) in
    let s = (λ (e : Reading). context_at at c.args.context.now e) in
    let apart = (λ (e : Reading). apart_at at page.apart.now e) in
    let asks = (λ (e : Reading). InLinesFit tree e.world (apart e) b (cb e) (y e) (s e)) in
    let laid = c.lines_in-lines.result in
    let lines = c.lines_in-lines.ensures in
    let standing = c.below-standing.ensures in
    let least = c.raised_by-least.ensures in
    let added = c.add_entries.ensures in
    let one = start_but_mem {asks = asks} lines.goes lines.cause (λ a. a) in
    let two = next_but_mem one standing.goes (but_mem standing.cause) (λ a e o.
    subst (λ (l : LineList). IsNear l.bottom) (sym (lines.value e o)) (a e o).bottom) in
    let entries = (λ (e : Reading) (o : IsTrue ((g.S.Steady.run c.lines_in-lines.new.calc).is_open e)) (x : asks e). subst (λ (l : LineList). AllByRecursion IsEntryLow l.entries) (sym (lines.value e o)) x.entries) in
    let three = next_but_mem two least.goes (but_mem least.cause) (λ a e o. (
      subst AreLevelsLow (sym (ap (λ x. option_at at x e) (c.take.ensures.value ∙ lines.least))) (a e o).least,
      subst (λ es. AllByRecursion IsEntryLow (entries_at at es e)) (sym c.as_slice.ensures) (entries e (standing.goes.closes e o) (a e o)),
    )) in
    (next_but_mem three added.goes added.cause (λ a e o. (
      (a e o).apart_low,
      subst (λ es. AllByRecursion IsEntryLow (entries_at at es e)) (sym c.into_vec.ensures) (entries e (standing.goes.closes e (least.goes.closes e o)) (a e o)),
    ))).cause
