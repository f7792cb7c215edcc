use Rattle.std.proofs.Common.{IsTrue, List, ◌++◌, ◌+ℤ◌, ◌∷◌, [], ℤ, refl, sym, subst, ap, ◌∙◌}
use Rattle.viz_base.specs.declared.layouts.Band.{Band}
use Rattle.viz_calc.specs.State.{IsSmall, AllSmall}
use Rattle.viz_calc.specs.World.{Reading}
use Rattle.lay_line.specs.Limits.{PlacesFit, RoomFits}
use Rattle.lay_line.specs.LineFits.{OnLine, ContentFits}
use Rattle.lay_line.specs.LinesFit.{EndFits}
use Rattle.layout_semantics.specs.LineFilling.{Met as MetOf}
use Rattle.std.specs.Int.{int_max}
use Rattle.viz_calc.proofs.Runs.{Goes-then}
use Rattle.viz_calc.specs.Renderings.{band_at}
use Rattle.layout_semantics.specs.Floats.{FloatBox}
use Rattle.layout_semantics.specs.Lines.{LaidLines}
use Rattle.lay_float.specs.Readings.{boxes_at}
use Rattle.lay_line.specs.Contexts.{context_at}
use Rattle.lay_line.specs.Lining.{begun_at, start_at, late_in}
use Rattle.lay_line.specs.Readings.{entries_at, load_at, met_at, pieces_at, slot_at, spots_at}
use Rattle.lay_line.specs.steps.Lining.{entries_in, places_of, left_in, box_in}
use Rattle.lay_line.specs.steps.Words.{room_in}
use Rattle.lay_line.proofs.Chains.{start_but_mem, next_but_mem, but_mem}
use Rattle.lay_line.proofs.Ending.{high_small, bottom_small, room_half, top_small, late_places, box_small, baseline_small, begin_on_line, content_fits}
use Rattle.lay_line.proofs.LineEnds.{entries-then, full-is}
use Rattle.lay_line.proofs.endings.end_full.Goals as goal

pub returns : goal.returns
returns g c =
    let at = g.S.Steady.at in
    let run = g.S.Steady.run in
    let ctx = (λ (e : Reading). context_at at c.args.container.now e) in
    let start = (λ (e : Reading). start_at at c.args.begun e) in
    let slot = (λ (e : Reading). slot_at at c.args.line.slot e) in
    let load = (λ (e : Reading). load_at at c.args.line.load e) in
    let items = (λ (e : Reading). pieces_at at c.args.line.pieces.now e) in
    let bottom = (λ (e : Reading). at c.edges_of-edges.result.bottom e) in
    let least = (λ (e : Reading). at c.edges_of-edges.result.least e) in
    let left = (λ (e : Reading). at c.content_of-content.result.left e) in
    let baseline = (λ (e : Reading). at c.add-baseline.result e) in
    let spots = (λ (e : Reading). spots_at at c.place_waiting-late.result.spots.items e) in
    let edges = c.edges_of-edges.ensures in
    let late = c.place_waiting-late.ensures in
    let boxed = c.add_box.ensures in
    let base = c.add-baseline.ensures in
    let content = c.content_of-content.ensures in
    let added = c.add_content.ensures in
    let room_is = (λ (e : Reading) (o : IsTrue ((run c.edges_of-edges.new.calc).is_open e)).
    edges.room e o ∙ ap (λ l. room_in (ctx e) (boxes_at at l e) (slot e).top (slot e).tall) c.as_slice.ensures) in
    let g1 = Goes-then _ _ _ edges.goes late.goes in
    let g2 = Goes-then _ _ _ g1 boxed.goes in
    let g3 = Goes-then _ _ _ g2 base.goes in
    let g4 = Goes-then _ _ _ g3 content.goes in
    let is = (λ (e : Reading) (o : IsTrue ((run c.add_content.new.calc).is_open e)) (floats : List FloatBox).
    let o1 = added.goes.closes e o in
    let o2 = content.goes.closes e o1 in
    let o4 = boxed.goes.closes e (base.goes.closes e o2) in
    let o5 = late.goes.closes e o4 in
    full-is (ctx e) (begun_at at c.args.begun floats e) (load e) (items e) (slot e)
    (record { bottom = bottom e; least = least e; room = band_at at c.edges_of-edges.result.room e; late = met_at at c.place_waiting-late.result e; left = left e; baseline = baseline e })
    (edges.bottom e o5) (edges.least e o5) (room_is e o5) (late.value e o4) (content.left e o1) (base.value e o2)) in
    let asks = (λ (e : Reading). EndFits (ctx e) (start e) (slot e) (load e) (items e)) in
    let one = start_but_mem {asks = asks} edges.goes (but_mem edges.cause) (λ f e o. (
      (high_small (ctx e) (start e) (slot e) (load e) (items e) (f e o), (bottom_small (ctx e) (start e) (slot e) (load e) (items e) (f e o), top_small (ctx e) (start e) (slot e) (load e) (items e) (f e o))),
      subst (λ l. RoomFits (ctx e) (boxes_at at l e) (slot e).top (slot e).tall) (sym c.as_slice.ensures) (room_half (ctx e) (start e) (slot e) (load e) (items e) (f e o)),
    )) in
    let two = next_but_mem one late.goes late.cause (λ f e o.
    subst (λ x. PlacesFit (ctx e) (load e).met.floats x (bottom e) (load e).met.waiting) (sym (edges.least e o))
    (subst (λ x. PlacesFit (ctx e) (load e).met.floats (int_max (start e).least (slot e).top) x (load e).met.waiting) (sym (edges.bottom e o))
    (late_places (ctx e) (start e) (slot e) (load e) (items e) (f e o)))) in
    let three = next_but_mem two boxed.goes boxed.cause (λ f e o.
    let o1 = late.goes.closes e o in
    subst (λ (b : Band ℤ). AllSmall (b.left ∷ (slot e).top ∷ b.right ∷ bottom e ∷ [])) (sym (room_is e o1))
    (subst (λ x. AllSmall ((room_in (ctx e) (load e).met.floats (slot e).top (slot e).tall).left ∷ (slot e).top ∷ (room_in (ctx e) (load e).met.floats (slot e).top (slot e).tall).right ∷ x ∷ [])) (sym (edges.bottom e o1))
    (box_small (ctx e) (start e) (slot e) (load e) (items e) (f e o)))) in
    let four = next_but_mem three base.goes (but_mem base.cause) (λ f e o. (baseline_small (ctx e) (start e) (slot e) (load e) (items e) (f e o), tt)) in
    let five = next_but_mem four content.goes (but_mem content.cause) (λ f e o.
    let o1 = late.goes.closes e (boxed.goes.closes e (base.goes.closes e o)) in (
      subst (λ (b : Band ℤ). OnLine (b.left ∷ b.right ∷ (load e).held.width ∷ [])) (sym (room_is e o1)) (begin_on_line (ctx e) (start e) (slot e) (load e) (items e) (f e o)),
      (subst IsSmall (sym (base.value e o)) (baseline_small (ctx e) (start e) (slot e) (load e) (items e) (f e o)), tt),
    )) in
    record {
      goes = Goes-then _ _ _ g4 added.goes;
      after = λ e o floats len. ap (λ (l : LaidLines). l.after) (is e o floats);
      added = λ e o floats len.
          let o1 = added.goes.closes e o in
          let o3 = base.goes.closes e (content.goes.closes e o1) in
          let old = entries_at at c.args.entries.now e in
          let mid = entries_at at c.add_box.new.entries e in
          let shown = added.value e o
          ∙ (ap (λ w. mid ++ entries_in (ctx e) (record { baseline = at c.content_of-content.result.baseline e; left = left e; right = left e +ℤ at w e; places = places_of (left e) (items e); spots = spots_at at c.content_of-content.result.spots.items e }) c.as_slice-2.result.now) content.width
          ∙ (ap (λ s. mid ++ entries_in (ctx e) (record { baseline = at c.content_of-content.result.baseline e; left = left e; right = left e +ℤ (load e).held.width; places = places_of (left e) (items e); spots = spots_at at s e }) c.as_slice-2.result.now) content.spots
          ∙ (ap (λ b. mid ++ entries_in (ctx e) (record { baseline = b; left = left e; right = left e +ℤ (load e).held.width; places = places_of (left e) (items e); spots = spots e }) c.as_slice-2.result.now) (content.baseline e o1)
          ∙ ap (λ l. mid ++ entries_in (ctx e) (record { baseline = baseline e; left = left e; right = left e +ℤ (load e).held.width; places = places_of (left e) (items e); spots = spots e }) l) c.as_slice-2.ensures.value))) in
          entries-then old mid (entries_at at c.add_content.new.entries e) _ (box_in (ctx e) (band_at at c.edges_of-edges.result.room e) (slot e).top (bottom e)) _ (boxed.value e o3) refl shown
          ∙ ap (λ (l : LaidLines). old ++ l.entries) (is e o floats);
      cause = (next_but_mem five added.goes added.cause (λ f e o.
          let o1 = content.goes.closes e o in
          let o4 = late.goes.closes e (boxed.goes.closes e (base.goes.closes e o1)) in
          let fits = f e o in (
            fits.boxes,
            subst (λ x. ContentFits x (left e) (at c.content_of-content.result.width e) (spots_at at c.content_of-content.result.spots.items e) (items e)) (sym (content.baseline e o ∙ base.value e o1))
                (subst (λ w. ContentFits ((slot e).top +ℤ (load e).extent.above) (left e) (at w e) (spots_at at c.content_of-content.result.spots.items e) (items e)) (sym content.width)
                (subst (λ s. ContentFits ((slot e).top +ℤ (load e).extent.above) (left e) (load e).held.width (spots_at at s e) (items e)) (sym content.spots)
                (subst (λ x. ContentFits ((slot e).top +ℤ (load e).extent.above) x (load e).held.width (spots e) (items e))
                (sym (content.left e o ∙ ap (λ b. left_in (ctx e) b (load e).held.width) (room_is e o4)))
                (subst (λ (m : MetOf). ContentFits ((slot e).top +ℤ (load e).extent.above) (left_in (ctx e) (room_in (ctx e) (load e).met.floats (slot e).top (slot e).tall) (load e).held.width) (load e).held.width m.spots (items e))
                (sym (late.value e (boxed.goes.closes e (base.goes.closes e o1)) ∙ (ap (λ x. late_in (ctx e) x (bottom e) (load e).met) (edges.least e o4) ∙ ap (λ x. late_in (ctx e) (int_max (start e).least (slot e).top) x (load e).met) (edges.bottom e o4))))
                (content_fits (ctx e) (start e) (slot e) (load e) (items e) fits))))),
          ))).cause;
    }
