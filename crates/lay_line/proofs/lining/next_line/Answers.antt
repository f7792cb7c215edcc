use Rattle.std.proofs.Common.{ℕ, ◌++◌, ◌∷◌, IsTrue, List, sym, subst, ap, ◌∙◌}
use Rattle.std.proofs.lemmas.List.{length-map}
use Rattle.viz_calc.specs.World.{Reading}
use Rattle.viz_calc.proofs.Runs.{Goes-then}
use Rattle.layout_semantics.specs.Lines.{LaidLines}
use Rattle.lay_float.specs.Readings.{box_at, boxes_at, floats_at}
use Rattle.lay_line.specs.Contexts.{context_at}
use Rattle.lay_line.specs.Lining.{so_far_at}
use Rattle.lay_line.specs.Readings.{entries_at, held_at, load_at, loaded_at, met_at, parts_at, pieces_at}
use Rattle.layout_semantics.specs.LineFilling.{Met as MetOf}
use Rattle.lay_line.specs.Limits.{ClampFits, RoomFits, FillFits}
use Rattle.lay_line.specs.LinesFit.{FirstFits, Start, EndFits, RestFits}
use Rattle.lay_line.specs.steps.Held.{Held, nothing_held}
use Rattle.lay_line.specs.steps.Leaping.{AreWide}
use Rattle.lay_line.specs.steps.Lining.{met_before, slot_for, first_load, joined_parts, taken}
use Rattle.lay_line.specs.steps.Loading.{Load, loading}
use Rattle.lay_line.specs.steps.Measured.{Measured, held_with}
use Rattle.lay_line.specs.steps.Meeting.{Slot, top_in}
use Rattle.lay_line.proofs.Chains.{start_but_mem, next_but_mem, but_mem}
use Rattle.lay_line.proofs.Filling.{pieces_joined}
use Rattle.lay_line.proofs.Growing.{clamp_fits, before_places, top_room, tall_small, least_small, first_fits, fill_fits, end_fits}
use Rattle.lay_line.proofs.AtOnce.{wide_back}
use Rattle.lay_line.proofs.NextLines.{joined-read, taken-read, slot-is, next-is}
use Rattle.lay_line.proofs.OnLines.{zero_small}
use Rattle.lay_line.proofs.lining.next_line.Goals as goal

pub fill-filled-requires : goal.fill-filled-requires
fill-filled-requires g c = λ e o.
    let at = g.S.Steady.at in
    let cut = c.args.cut in
    let o1 = c.copy-least.ensures.goes.closes e (c.first_load-load.ensures.goes.closes e o) in
    let o2 = c.meet_before-met.ensures.goes.closes e (c.line_top-top.ensures.goes.closes e (c.copy-tall.ensures.goes.closes e o1)) in
    let o3 = c.nothing-start.ensures.goes.closes e (c.with_pieces-held.ensures.goes.closes e o2) in
    wide_back (pieces_at at cut.first.now e) (pieces_at at cut.rest.pieces.now e) (subst AreWide (pieces_joined at e cut.pieces.now cut.first.now cut.rest.pieces.now c.requires.parts) (c.requires.wide e o3))

pub returns : goal.returns
returns g c =
    let at = g.S.Steady.at in
    let run = g.S.Steady.run in
    let cut = c.args.cut in
    let left = c.fill-filled.result.rest in
    let is = λ (e : Reading) (o : IsTrue ((run c.end_line-now.new.calc).is_open e)).
    (let ctx = context_at at c.args.frame.now.container.now e in
    let now = so_far_at at c.args.now e in
    let first = pieces_at at cut.first.now e in
    let held = held_at at c.with_pieces-held.result e in
    let before = met_at at c.meet_before-met.result e in
    let slot : Slot = record { top = at c.line_top-top.result e; tall = at c.copy-tall.result e; least = at c.copy-least.result e } in
    let load = load_at at c.first_load-load.result e in
    let o1 = c.end_line-now.ensures.goes.closes e o in
    let o2 = c.fill-filled.ensures.goes.closes e o1 in
    let o3 = c.first_load-load.ensures.goes.closes e o2 in
    let o4 = c.copy-least.ensures.goes.closes e o3 in
    let o5 = c.copy-tall.ensures.goes.closes e o4 in
    let o6 = c.line_top-top.ensures.goes.closes e o5 in
    let o7 = c.meet_before-met.ensures.goes.closes e o6 in
    let o8 = c.with_pieces-held.ensures.goes.closes e o7 in
    next-is ctx (at c.args.frame.now.tall e) now first (parts_at at cut.rest e) held before slot load (loaded_at at c.fill-filled.result e) (pieces_at at c.split_at.result.0.now e)
    (c.with_pieces-held.ensures.value e o7 ∙ ap (λ h. held_with h first) (c.nothing-start.ensures.value e o8))
    (c.meet_before-met.ensures.value e o6)
    (slot-is ctx (at c.args.frame.now.tall e) now before held.width slot.top slot.tall slot.least
    (c.line_top-top.ensures.value e o5 ∙ ap (λ l. top_in ctx (boxes_at at l e) now.y (at c.args.frame.now.tall e) held.width) c.as_slice.ensures)
    (c.copy-tall.ensures.value e o4) (c.copy-least.ensures.value e o3))
    (c.first_load-load.ensures.value e o2 ∙ ap (λ l. first_load ctx slot before l first held) c.as_slice-2.ensures.value)
    (c.fill-filled.ensures.value e o1)
    (taken-read at e cut.pieces.now cut.first.now c.split_at.result.0.now cut.rest left c.saturating_sub-count.result c.requires.parts c.saturating_sub-count.ensures c.split_at.ensures.front)) in
    let g1 = Goes-then _ _ _ c.nothing-start.ensures.goes c.with_pieces-held.ensures.goes in
    let g2 = Goes-then _ _ _ g1 c.meet_before-met.ensures.goes in
    let g3 = Goes-then _ _ _ g2 c.line_top-top.ensures.goes in
    let g4 = Goes-then _ _ _ g3 c.copy-tall.ensures.goes in
    let g5 = Goes-then _ _ _ g4 c.copy-least.ensures.goes in
    let g6 = Goes-then _ _ _ g5 c.first_load-load.ensures.goes in
    let g7 = Goes-then _ _ _ g6 c.fill-filled.ensures.goes in
    let ctx = (λ (e : Reading). context_at at c.args.frame.now.container.now e) in
    let tall = (λ (e : Reading). at c.args.frame.now.tall e) in
    let so_far = (λ (e : Reading). so_far_at at c.args.now e) in
    let start = (λ (e : Reading) (n : ℕ). let s : Start = record { y = (so_far e).y; least = (so_far e).least; floats = n } in s) in
    let first = (λ (e : Reading). pieces_at at cut.first.now e) in
    let rest = (λ (e : Reading). parts_at at cut.rest e) in
    let nothing = c.nothing-start.ensures in
    let held = c.with_pieces-held.ensures in
    let met = c.meet_before-met.ensures in
    let top = c.line_top-top.ensures in
    let high = c.copy-tall.ensures in
    let least = c.copy-least.ensures in
    let load = c.first_load-load.ensures in
    let fill = c.fill-filled.ensures in
    let the_held = (λ (e : Reading). held_with nothing_held (first e)) in
    let the_met = (λ (e : Reading). met_before (ctx e) (so_far e) (first e)) in
    let the_slot = (λ (e : Reading). slot_for (ctx e) (tall e) (so_far e) (the_met e) (the_held e).width) in
    let the_load = (λ (e : Reading). first_load (ctx e) (the_slot e) (the_met e) (so_far e).opened (first e) (the_held e)) in
    let asks = (λ (e : Reading). RestFits (ctx e) (tall e) (so_far e) (pieces_at at cut.pieces.now e)) in
    let whole = (λ (e : Reading) (r : asks e). subst (λ (l : List Measured). RestFits (ctx e) (tall e) (so_far e) l)
    (pieces_joined at e cut.pieces.now cut.first.now cut.rest.pieces.now c.requires.parts ∙ ap (λ l. first e ++ l) (sym (joined-read at e cut.rest))) r) in
    let held_is = (λ (e : Reading) (o : IsTrue ((run c.with_pieces-held.new.calc).is_open e)). held.value e o ∙ ap (λ h. held_with h (first e)) (nothing.value e (held.goes.closes e o))) in
    let slot_is = (λ (e : Reading) (o : IsTrue ((run c.copy-least.new.self).is_open e)).
    let o1 = least.goes.closes e o in
    let o2 = high.goes.closes e o1 in
    let o3 = top.goes.closes e o2 in
    let before = met_at at c.meet_before-met.result e in
    slot-is (ctx e) (tall e) (so_far e) before (at c.with_pieces-held.result.width e) (at c.line_top-top.result e) (at c.copy-tall.result e) (at c.copy-least.result e)
    (top.value e o2 ∙ ap (λ l. top_in (ctx e) (boxes_at at l e) (so_far e).y (tall e) (at c.with_pieces-held.result.width e)) c.as_slice.ensures) (high.value e o1) (least.value e o)
    ∙ (ap (λ m. slot_for (ctx e) (tall e) (so_far e) m (at c.with_pieces-held.result.width e)) (met.value e o3)
    ∙ ap (λ (h : Held). slot_for (ctx e) (tall e) (so_far e) (the_met e) h.width) (held_is e (met.goes.closes e o3)))) in
    let load_is = (λ (e : Reading) (o : IsTrue ((run c.first_load-load.new.calc).is_open e)).
    let o1 = load.goes.closes e o in
    let o3 = top.goes.closes e (high.goes.closes e (least.goes.closes e o1)) in
    let before = met_at at c.meet_before-met.result e in
    let holds = held_at at c.with_pieces-held.result e in
    let slot : Slot = record { top = at c.line_top-top.result e; tall = at c.copy-tall.result e; least = at c.copy-least.result e } in
    load.value e o
    ∙ (ap (λ l. first_load (ctx e) slot before l (first e) holds) c.as_slice-2.ensures.value
    ∙ (ap (λ x. first_load (ctx e) x before (so_far e).opened (first e) holds) (slot_is e o1)
    ∙ (ap (λ x. first_load (ctx e) (the_slot e) x (so_far e).opened (first e) holds) (met.value e o3)
    ∙ ap (λ x. first_load (ctx e) (the_slot e) (the_met e) (so_far e).opened (first e) x) (held_is e (met.goes.closes e o3)))))) in
    let full_is = (λ (e : Reading) (o : IsTrue ((run c.fill-filled.new.calc).is_open e)).
    let o1 = fill.goes.closes e o in
    fill.value e o
    ∙ (ap (λ x. loading (ctx e) x (load_at at c.first_load-load.result e) (rest e)) (slot_is e (load.goes.closes e o1))
    ∙ ap (λ x. loading (ctx e) (the_slot e) x (rest e)) (load_is e o1))) in
    let items_is = (λ (e : Reading) (o : IsTrue ((run c.fill-filled.new.calc).is_open e)).
    taken-read at e cut.pieces.now cut.first.now c.split_at.result.0.now cut.rest left c.saturating_sub-count.result c.requires.parts c.saturating_sub-count.ensures c.split_at.ensures.front
    ∙ ap (λ (x : Load × List (List Measured)). taken (joined_parts (first e ∷ rest e)) (joined_parts x.1)) (full_is e o)) in
    let one = start_but_mem {asks = asks} nothing.goes (but_mem nothing.cause) (λ f e o. (zero_small, tt)) in
    let two = next_but_mem one held.goes (but_mem held.cause) (λ f e o.
    subst (λ (h : Held). ClampFits h (first e)) (sym (nothing.value e o)) (clamp_fits (ctx e) (tall e) (so_far e) (first e) (rest e) (whole e (f e o)))) in
    let three = next_but_mem two met.goes met.cause (λ f e o. before_places (ctx e) (tall e) (so_far e) (first e) (rest e) (whole e (f e o))) in
    let four = next_but_mem three top.goes (but_mem top.cause) (λ f e o.
    subst (λ l. RoomFits (ctx e) (boxes_at at l e) (so_far e).y (tall e)) (sym c.as_slice.ensures)
    (subst (λ (m : MetOf). RoomFits (ctx e) m.floats (so_far e).y (tall e)) (sym (met.value e o)) (top_room (ctx e) (tall e) (so_far e) (first e) (rest e) (whole e (f e o))))) in
    let five = next_but_mem four high.goes (but_mem high.cause) (λ f e o. tall_small (ctx e) (tall e) (so_far e) (first e) (rest e) (whole e (f e o))) in
    let six = next_but_mem five least.goes (but_mem least.cause) (λ f e o. least_small (ctx e) (tall e) (so_far e) (first e) (rest e) (whole e (f e o))) in
    let seven = next_but_mem six load.goes load.cause (λ f e o.
    let o3 = top.goes.closes e (high.goes.closes e (least.goes.closes e o)) in
    subst (λ (x : Slot). FirstFits (ctx e) x (met_at at c.meet_before-met.result e) (first e)) (sym (slot_is e o))
    (subst (λ (m : MetOf). FirstFits (ctx e) (the_slot e) m (first e)) (sym (met.value e o3)) (first_fits (ctx e) (tall e) (so_far e) (first e) (rest e) (whole e (f e o))))) in
    let eight = next_but_mem seven fill.goes fill.cause (λ f e o.
    subst (λ (x : Slot). FillFits (ctx e) x (load_at at c.first_load-load.result e) (pieces_at at cut.rest.pieces.now e)) (sym (slot_is e (load.goes.closes e o)))
    (subst (λ (x : Load). FillFits (ctx e) (the_slot e) x (pieces_at at cut.rest.pieces.now e)) (sym (load_is e o))
    (subst (λ (l : List Measured). FillFits (ctx e) (the_slot e) (the_load e) l) (joined-read at e cut.rest) (fill_fits (ctx e) (tall e) (so_far e) (first e) (rest e) (whole e (f e o)))))) in
    record {
      goes = Goes-then _ _ _ g7 c.end_line-now.ensures.goes;
      after = λ e o.
          c.end_line-now.ensures.after e o (floats_at at c.args.now.floats e) (length-map c.args.now.floats.placed (λ f. box_at at f e) ∙ sym c.len.ensures)
          ∙ ap (λ (x : LaidLines × List (List Measured)). x.0.after) (sym (is e o));
      added = λ e o.
          c.end_line-now.ensures.added e o (floats_at at c.args.now.floats e) (length-map c.args.now.floats.placed (λ f. box_at at f e) ∙ sym c.len.ensures)
          ∙ ap (λ (x : LaidLines × List (List Measured)). entries_at at c.args.entries.now e ++ x.0.entries) (sym (is e o));
      rest = λ e o. ap (λ (x : LaidLines × List (List Measured)). x.1) (sym (is e o));
      cause = (next_but_mem eight c.end_line-now.ensures.goes c.end_line-now.ensures.cause (λ f e o.
          subst (λ (x : Slot). EndFits (ctx e) (start e c.len.result) x (load_at at c.fill-filled.result.load e) (pieces_at at c.split_at.result.0.now e)) (sym (slot_is e (load.goes.closes e (fill.goes.closes e o))))
          (subst (λ (x : Load × List (List Measured)). EndFits (ctx e) (start e c.len.result) (the_slot e) x.0 (pieces_at at c.split_at.result.0.now e)) (sym (full_is e o))
          (subst (λ (l : List Measured). EndFits (ctx e) (start e c.len.result) (the_slot e) (loading (ctx e) (the_slot e) (the_load e) (rest e)).0 l) (sym (items_is e o))
          (subst (λ n. EndFits (ctx e) (start e n) (the_slot e) (loading (ctx e) (the_slot e) (the_load e) (rest e)).0 (taken (joined_parts (first e ∷ rest e)) (joined_parts (loading (ctx e) (the_slot e) (the_load e) (rest e)).1))) (length-map c.args.now.floats.placed (λ x. box_at at x e) ∙ sym c.len.ensures)
          (end_fits (ctx e) (tall e) (so_far e) (first e) (rest e) (whole e (f e o)))))))).cause;
    }
