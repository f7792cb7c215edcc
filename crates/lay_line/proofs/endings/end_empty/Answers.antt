use Rattle.std.proofs.Common.{◌++◌, take, sym, subst, ap, ◌∙◌}
use Rattle.viz_calc.specs.World.{Reading}
use Rattle.viz_calc.proofs.Runs.{Goes-then}
use Rattle.layout_semantics.specs.LineFilling.{Met as MetOf}
use Rattle.lay_line.specs.Limits.{PlacesFit}
use Rattle.lay_line.specs.LineFits.{SpotsOnLine}
use Rattle.lay_line.specs.LinesFit.{EndFits}
use Rattle.lay_line.specs.steps.Lining.{no_floats}
use Rattle.lay_line.proofs.Chains.{start_but_mem, next_but_mem}
use Rattle.lay_line.proofs.Ending.{empty_spots}
use Rattle.std.proofs.lemmas.List.{take-map}
use Rattle.layout_semantics.specs.Fragments.{float_entries}
use Rattle.layout_semantics.specs.InlineContent.{float_boxes}
use Rattle.layout_semantics.specs.Lines.{LaidLines}
use Rattle.lay_float.specs.Readings.{box_at, boxes_at, floats_at}
use Rattle.lay_line.specs.Contexts.{context_at}
use Rattle.lay_line.specs.Lining.{begun_at, start_at}
use Rattle.lay_line.specs.Readings.{load_at, met_at, pieces_at, slot_at, spots_at, entries_at}
use Rattle.lay_line.specs.steps.Meeting.{placed_all}
use Rattle.lay_line.proofs.LineBegins.{none-met}
use Rattle.lay_line.proofs.LineEnds.{empty-is}
use Rattle.lay_line.proofs.LoadSteps.{bare-same}
use Rattle.lay_line.proofs.endings.end_empty.Goals as goal

pub returns-clause-goes : goal.returns-clause-goes
returns-clause-goes g c = Goes-then _ _ _ (Goes-then _ _ _ c.floats_of-boxes.ensures.goes c.place_each.ensures.goes) c.add_floats.ensures.goes

pub returns-clause-after : goal.returns-clause-after
returns-clause-after g c = λ e o floats len.
    let at = g.S.Steady.at in
    let ctx = context_at at c.args.container.now e in
    let o1 = c.add_floats.ensures.goes.closes e o in
    let o2 = c.place_each.ensures.goes.closes e o1 in
    let cut = ap (λ l. boxes_at at l e) c.truncate.ensures ∙ (sym (take-map (λ f. box_at at f e) c.args.begun.floats c.args.line.load.met.floats.placed) ∙ ap (λ n. take n (floats_at at c.args.line.load.met.floats e)) (sym len)) in
    let boxes = c.as_slice.ensures.value ∙ (c.floats_of-boxes.ensures.value e o2 ∙ ap float_boxes (sym (bare-same at e c.args.line.pieces.now))) in
    let none = none-met at e c.new.result.items c.new-2.result.items (boxes_at at c.truncate.new.self e) c.new.ensures.items c.new-2.ensures.items in
    let met = c.place_each.ensures.value e o1 ∙ ap (λ m. placed_all ctx (at c.args.begun.least e) (at c.args.begun.y e) m c.as_slice.result.now) none in
    ap (λ (l : LaidLines). l.after)
    (empty-is ctx (begun_at at c.args.begun floats e) (load_at at c.args.line.load e) (pieces_at at c.args.line.pieces.now e)
    (boxes_at at c.truncate.new.self e) c.as_slice.result.now (met_at at c.place_each.new.met e) cut boxes met)

pub returns-clause-added : goal.returns-clause-added
returns-clause-added g c = λ e o floats len.
    let at = g.S.Steady.at in
    let ctx = context_at at c.args.container.now e in
    let o1 = c.add_floats.ensures.goes.closes e o in
    let o2 = c.place_each.ensures.goes.closes e o1 in
    let cut = ap (λ l. boxes_at at l e) c.truncate.ensures ∙ (sym (take-map (λ f. box_at at f e) c.args.begun.floats c.args.line.load.met.floats.placed) ∙ ap (λ n. take n (floats_at at c.args.line.load.met.floats e)) (sym len)) in
    let boxes = c.as_slice.ensures.value ∙ (c.floats_of-boxes.ensures.value e o2 ∙ ap float_boxes (sym (bare-same at e c.args.line.pieces.now))) in
    let none = none-met at e c.new.result.items c.new-2.result.items (boxes_at at c.truncate.new.self e) c.new.ensures.items c.new-2.ensures.items in
    let met = c.place_each.ensures.value e o1 ∙ ap (λ m. placed_all ctx (at c.args.begun.least e) (at c.args.begun.y e) m c.as_slice.result.now) none in
    let is = empty-is ctx (begun_at at c.args.begun floats e) (load_at at c.args.line.load e) (pieces_at at c.args.line.pieces.now e)
    (boxes_at at c.truncate.new.self e) c.as_slice.result.now (met_at at c.place_each.new.met e) cut boxes met in
    c.add_floats.ensures.value e o
    ∙ (ap (λ l. entries_at at c.args.entries.now e ++ float_entries (spots_at at l e)) c.as_slice-2.ensures.value
    ∙ ap (λ (l : LaidLines). entries_at at c.args.entries.now e ++ l.entries) is)

pub returns-clause-cause : goal.returns-clause-cause
returns-clause-cause g c =
    let at = g.S.Steady.at in
    let ctx = (λ (e : Reading). context_at at c.args.container.now e) in
    let y = (λ (e : Reading). at c.args.begun.y e) in
    let least = (λ (e : Reading). at c.args.begun.least e) in
    let n = c.args.begun.floats in
    let start = (λ (e : Reading). start_at at c.args.begun e) in
    let slot = (λ (e : Reading). slot_at at c.args.line.slot e) in
    let load = (λ (e : Reading). load_at at c.args.line.load e) in
    let items = (λ (e : Reading). pieces_at at c.args.line.pieces.now e) in
    let floats = c.floats_of-boxes.ensures in
    let placed = c.place_each.ensures in
    let cut = (λ (e : Reading). ap (λ l. boxes_at at l e) c.truncate.ensures ∙ sym (take-map (λ f. box_at at f e) n c.args.line.load.met.floats.placed)) in
    let first = start_but_mem {asks = λ (e : Reading). EndFits (ctx e) (start e) (slot e) (load e) (items e)} floats.goes floats.cause (λ f e o. tt) in
    let second = next_but_mem first placed.goes placed.cause (λ f e o.
    let boxes = c.as_slice.ensures.value ∙ (floats.value e o ∙ ap float_boxes (sym (bare-same at e c.args.line.pieces.now))) in
    subst (λ l. PlacesFit (ctx e) l (least e) (y e) c.as_slice.result.now) (sym (cut e)) (subst (λ l. PlacesFit (ctx e) (take n (load e).met.floats) (least e) (y e) l) (sym boxes) (f e o).empty)) in
    (next_but_mem second c.add_floats.ensures.goes c.add_floats.ensures.cause (λ f e o.
    let o1 = placed.goes.closes e o in
    let boxes = c.as_slice.ensures.value ∙ (floats.value e o1 ∙ ap float_boxes (sym (bare-same at e c.args.line.pieces.now))) in
    let none = none-met at e c.new.result.items c.new-2.result.items (boxes_at at c.truncate.new.self e) c.new.ensures.items c.new-2.ensures.items in
    let met = placed.value e o ∙ (ap (λ m. placed_all (ctx e) (least e) (y e) m c.as_slice.result.now) none
    ∙ (ap (λ l. placed_all (ctx e) (least e) (y e) (no_floats l) c.as_slice.result.now) (cut e) ∙ ap (λ l. placed_all (ctx e) (least e) (y e) (no_floats (take n (load e).met.floats)) l) boxes)) in
    subst (λ l. SpotsOnLine (spots_at at l e)) (sym c.as_slice-2.ensures.value)
    (subst (λ (m : MetOf). SpotsOnLine m.spots) (sym met) (empty_spots (ctx e) (start e) (slot e) (load e) (items e) (f e o))))).cause
