use Rattle.std.proofs.Common.{◌++◌, ◌≤◌, [], IsTrue, arith, ap, sym, subst, ◌∙◌}
use Rattle.std.proofs.lemmas.Bool.Decides.{nat_tests}
use Rattle.std.specs.Prelude.{ℕ, List}
use Rattle.viz_calc.specs.World.{Reading}
use Rattle.viz_calc.proofs.Runs.{Goes-then, BlamesButMem-then}
use Rattle.layout_semantics.specs.InlineContent.{float_boxes}
use Rattle.lay_line.specs.Contexts.{context_at}
use Rattle.lay_line.specs.Items.{bare_of}
use Rattle.lay_line.specs.Limits.{ClampFits, PlacesFit, FillFits}
use Rattle.lay_line.specs.Readings.{held_at, load_at, pieces_at, parts_at, slot_at}
use Rattle.lay_line.specs.steps.Held.{Held}
use Rattle.lay_line.specs.steps.Leaping.{AreWide}
use Rattle.lay_line.specs.steps.Loading.{Load}
use Rattle.lay_line.specs.steps.Measured.{Measured, held_with}
use Rattle.lay_line.proofs.Filling.{first_holds, first_places, rest_fits, held_small, fill_room, pieces_joined, loaded_is}
use Rattle.lay_line.proofs.AtOnce.{leap-next, leap-none, wide_back}
use Rattle.lay_line.proofs.LoadSteps.{bare-same, parts-same, none-left}
use Rattle.lay_line.proofs.loads.fill.Goals as goal

pub returns-then-next-lt2 : goal.returns-then-next-lt2
returns-then-next-lt2 g c = record {
  goes =
      Goes-then _ _ _ (Goes-then _ _ _ (Goes-then _ _ _ c.loop-next.invariant.goes c.copy_held-before.ensures.goes) c.with_pieces-held.ensures.goes) c.takes_more.ensures.goes;
  value = λ e o.
      let at = g.S.Steady.at in
      let cut = c.in-Some.next in
      let o1 = c.takes_more.ensures.goes.closes e o in
      let o2 = c.with_pieces-held.ensures.goes.closes e o1 in
      let o3 = c.copy_held-before.ensures.goes.closes e o2 in
      let held = c.with_pieces-held.ensures.value e o1 ∙ ap (λ h. held_with h (pieces_at at cut.first.now e)) (c.copy_held-before.ensures.value e o2) in
      leap-none at e (context_at at c.args.container.now e) (slot_at at c.args.slot.now e) (load_at at c.loop-next.load e) c.loop-next.rest cut.rest cut.first.now cut.count c.loop-next.most c.in-Some.ensures
      (held_at at c.with_pieces-held.result e) (c.in-Some.ensures.alone (grind (arith, nat_tests))) held (c.if-not-takes_more.ensures.value e o)
      ∙ c.loop-next.invariant.value e o3;
  cause =
      let at = g.S.Steady.at in
      let run = g.S.Steady.run in
      let cut = c.in-Some.next in
      let g1 = Goes-then _ _ _ c.loop-next.invariant.goes c.copy_held-before.ensures.goes in
      let g2 = Goes-then _ _ _ g1 c.with_pieces-held.ensures.goes in
      let start = run c.args.calc.now in
      let ctx = (λ (e : Reading). context_at at c.args.container.now e) in
      let slot = (λ (e : Reading). slot_at at c.args.slot.now e) in
      let load = (λ (e : Reading). load_at at c.loop-next.load e) in
      let first = (λ (e : Reading). pieces_at at cut.first.now e) in
      let rest = (λ (e : Reading). pieces_at at cut.rest.pieces.now e) in
      let copied = c.copy_held-before.ensures in
      let holds = c.with_pieces-held.ensures in
      let takes = c.takes_more.ensures in
      let more = (e : Reading) → IsTrue (start.is_open e) → FillFits (ctx e) (slot e) (load_at at c.args.start e) (pieces_at at c.args.segments.pieces.now e) in
      let ready = (λ (e : Reading) (o : IsTrue ((run c.loop-next.calc).is_open e)) (f : FillFits (ctx e) (slot e) (load_at at c.args.start e) (pieces_at at c.args.segments.pieces.now e)).
      subst (λ (l : List Measured). FillFits (ctx e) (slot e) (load e) l) (pieces_joined at e c.loop-next.rest.pieces.now cut.first.now cut.rest.pieces.now c.in-Some.ensures.joined) (c.loop-next.invariant.fits e o f)) in
      let p1 = BlamesButMem-then start (run c.loop-next.calc) (run c.copy_held-before.new.calc) _ more c.loop-next.invariant.goes copied.goes c.loop-next.invariant.cause
      (λ f e o. held_small (ctx e) (slot e) (load e) (first e ++ rest e) (ready e o (f e (c.loop-next.invariant.goes.closes e o))))
      (record { coeff = copied.cause.coeff; opens = copied.cause.opens }) in
      let p2 = BlamesButMem-then start (run c.copy_held-before.new.calc) (run c.with_pieces-held.new.calc) _ more g1 holds.goes p1
      (λ f e o.
      let o1 = copied.goes.closes e o in
      subst (λ (h : Held). ClampFits h (first e)) (sym (copied.value e o)) (first_holds (ctx e) (slot e) (load e) (first e) (rest e) (ready e o1 (f e (c.loop-next.invariant.goes.closes e o1)))))
      (record { coeff = holds.cause.coeff; opens = holds.cause.opens }) in
      let p3 = BlamesButMem-then start (run c.with_pieces-held.new.calc) (run c.takes_more.new.calc) _ more g2 takes.goes p2
      (λ f e o.
      let o1 = copied.goes.closes e (holds.goes.closes e o) in
      fill_room (ctx e) (slot e) (load e) (first e ++ rest e) (ready e o1 (f e (c.loop-next.invariant.goes.closes e o1))))
      (record { coeff = takes.cause.coeff; opens = takes.cause.opens }) in
      p3;
}

pub loop-next-smaller-then-not-takes_more : goal.loop-next-smaller-then-not-takes_more
loop-next-smaller-then-not-takes_more g c =
    let two : 2 ≤ c.in-Some.next.count = grind (arith, nat_tests) in
    let few = c.in-Some.ensures.few two in
    omega (arith, two, few)

pub loop-next-preserved-then-not-takes_more : goal.loop-next-preserved-then-not-takes_more
loop-next-preserved-then-not-takes_more g c = record {
  goes =
      Goes-then _ _ _ (Goes-then _ _ _ (Goes-then _ _ _ c.loop-next.invariant.goes c.copy_held-before.ensures.goes) c.with_pieces-held.ensures.goes) c.takes_more.ensures.goes;
  value = λ e o. c.loop-next.invariant.value e (c.copy_held-before.ensures.goes.closes e (c.with_pieces-held.ensures.goes.closes e (c.takes_more.ensures.goes.closes e o)));
  fits = λ e o. c.loop-next.invariant.fits e (c.copy_held-before.ensures.goes.closes e (c.with_pieces-held.ensures.goes.closes e (c.takes_more.ensures.goes.closes e o)));
  wide = λ e o. c.loop-next.invariant.wide e (c.copy_held-before.ensures.goes.closes e (c.with_pieces-held.ensures.goes.closes e (c.takes_more.ensures.goes.closes e o)));
  cause =
      let at = g.S.Steady.at in
      let run = g.S.Steady.run in
      let cut = c.in-Some.next in
      let g1 = Goes-then _ _ _ c.loop-next.invariant.goes c.copy_held-before.ensures.goes in
      let g2 = Goes-then _ _ _ g1 c.with_pieces-held.ensures.goes in
      let start = run c.args.calc.now in
      let ctx = (λ (e : Reading). context_at at c.args.container.now e) in
      let slot = (λ (e : Reading). slot_at at c.args.slot.now e) in
      let load = (λ (e : Reading). load_at at c.loop-next.load e) in
      let first = (λ (e : Reading). pieces_at at cut.first.now e) in
      let rest = (λ (e : Reading). pieces_at at cut.rest.pieces.now e) in
      let copied = c.copy_held-before.ensures in
      let holds = c.with_pieces-held.ensures in
      let takes = c.takes_more.ensures in
      let more = (e : Reading) → IsTrue (start.is_open e) → FillFits (ctx e) (slot e) (load_at at c.args.start e) (pieces_at at c.args.segments.pieces.now e) in
      let ready = (λ (e : Reading) (o : IsTrue ((run c.loop-next.calc).is_open e)) (f : FillFits (ctx e) (slot e) (load_at at c.args.start e) (pieces_at at c.args.segments.pieces.now e)).
      subst (λ (l : List Measured). FillFits (ctx e) (slot e) (load e) l) (pieces_joined at e c.loop-next.rest.pieces.now cut.first.now cut.rest.pieces.now c.in-Some.ensures.joined) (c.loop-next.invariant.fits e o f)) in
      let p1 = BlamesButMem-then start (run c.loop-next.calc) (run c.copy_held-before.new.calc) _ more c.loop-next.invariant.goes copied.goes c.loop-next.invariant.cause
      (λ f e o. held_small (ctx e) (slot e) (load e) (first e ++ rest e) (ready e o (f e (c.loop-next.invariant.goes.closes e o))))
      (record { coeff = copied.cause.coeff; opens = copied.cause.opens }) in
      let p2 = BlamesButMem-then start (run c.copy_held-before.new.calc) (run c.with_pieces-held.new.calc) _ more g1 holds.goes p1
      (λ f e o.
      let o1 = copied.goes.closes e o in
      subst (λ (h : Held). ClampFits h (first e)) (sym (copied.value e o)) (first_holds (ctx e) (slot e) (load e) (first e) (rest e) (ready e o1 (f e (c.loop-next.invariant.goes.closes e o1)))))
      (record { coeff = holds.cause.coeff; opens = holds.cause.opens }) in
      let p3 = BlamesButMem-then start (run c.with_pieces-held.new.calc) (run c.takes_more.new.calc) _ more g2 takes.goes p2
      (λ f e o.
      let o1 = copied.goes.closes e (holds.goes.closes e o) in
      fill_room (ctx e) (slot e) (load e) (first e ++ rest e) (ready e o1 (f e (c.loop-next.invariant.goes.closes e o1))))
      (record { coeff = takes.cause.coeff; opens = takes.cause.opens }) in
      p3;
}

pub loop-next-preserved : goal.loop-next-preserved
loop-next-preserved g c =
    let at = g.S.Steady.at in
    let run = g.S.Steady.run in
    let cut = c.in-Some.next in
    let g1 = Goes-then _ _ _ c.loop-next.invariant.goes c.copy_held-before.ensures.goes in
    let g2 = Goes-then _ _ _ g1 c.with_pieces-held.ensures.goes in
    let g3 = Goes-then _ _ _ g2 c.takes_more.ensures.goes in
    let g4 = Goes-then _ _ _ g3 c.floats_of-floats.ensures.goes in
    let start = run c.args.calc.now in
    let ctx = (λ (e : Reading). context_at at c.args.container.now e) in
    let slot = (λ (e : Reading). slot_at at c.args.slot.now e) in
    let load = (λ (e : Reading). load_at at c.loop-next.load e) in
    let first = (λ (e : Reading). pieces_at at cut.first.now e) in
    let rest = (λ (e : Reading). pieces_at at cut.rest.pieces.now e) in
    let copied = c.copy_held-before.ensures in
    let holds = c.with_pieces-held.ensures in
    let takes = c.takes_more.ensures in
    let more = (e : Reading) → IsTrue (start.is_open e) → FillFits (ctx e) (slot e) (load_at at c.args.start e) (pieces_at at c.args.segments.pieces.now e) in
    let ready = (λ (e : Reading) (o : IsTrue ((run c.loop-next.calc).is_open e)) (f : FillFits (ctx e) (slot e) (load_at at c.args.start e) (pieces_at at c.args.segments.pieces.now e)).
    subst (λ (l : List Measured). FillFits (ctx e) (slot e) (load e) l) (pieces_joined at e c.loop-next.rest.pieces.now cut.first.now cut.rest.pieces.now c.in-Some.ensures.joined) (c.loop-next.invariant.fits e o f)) in
    let p1 = BlamesButMem-then start (run c.loop-next.calc) (run c.copy_held-before.new.calc) _ more c.loop-next.invariant.goes copied.goes c.loop-next.invariant.cause
    (λ f e o. held_small (ctx e) (slot e) (load e) (first e ++ rest e) (ready e o (f e (c.loop-next.invariant.goes.closes e o))))
    (record { coeff = copied.cause.coeff; opens = copied.cause.opens }) in
    let p2 = BlamesButMem-then start (run c.copy_held-before.new.calc) (run c.with_pieces-held.new.calc) _ more g1 holds.goes p1
    (λ f e o.
    let o1 = copied.goes.closes e o in
    subst (λ (h : Held). ClampFits h (first e)) (sym (copied.value e o)) (first_holds (ctx e) (slot e) (load e) (first e) (rest e) (ready e o1 (f e (c.loop-next.invariant.goes.closes e o1)))))
    (record { coeff = holds.cause.coeff; opens = holds.cause.opens }) in
    let p3 = BlamesButMem-then start (run c.with_pieces-held.new.calc) (run c.takes_more.new.calc) _ more g2 takes.goes p2
    (λ f e o.
    let o1 = copied.goes.closes e (holds.goes.closes e o) in
    fill_room (ctx e) (slot e) (load e) (first e ++ rest e) (ready e o1 (f e (c.loop-next.invariant.goes.closes e o1))))
    (record { coeff = takes.cause.coeff; opens = takes.cause.opens }) in
    let p4 = BlamesButMem-then start (run c.takes_more.new.calc) (run c.floats_of-floats.new.calc) _ more g3 c.floats_of-floats.ensures.goes p3 (λ f e o. tt) c.floats_of-floats.ensures.cause in
    let held_is = (λ (e : Reading) (o : IsTrue ((run c.with_pieces-held.new.calc).is_open e)). holds.value e o ∙ ap (λ h. held_with h (first e)) (copied.value e (holds.goes.closes e o))) in
    record {
      fits = λ e o f.
          let o1 = c.with_segment-load.ensures.goes.closes e o in
          let o3 = takes.goes.closes e (c.floats_of-floats.ensures.goes.closes e o1) in
          let o5 = copied.goes.closes e (holds.goes.closes e o3) in
          subst (λ (l : Load). FillFits (ctx e) (slot e) l (rest e))
          (sym (loaded_is (ctx e) (slot e) (load e) (load_at at c.with_segment-load.result e) (first e) (held_at at c.with_pieces-held.result e) (bare_of cut.first.now) c.as_slice.result.now (held_is e o3)
          (bare-same at e cut.first.now) (c.as_slice.ensures.value ∙ c.floats_of-floats.ensures.value e o1) (c.with_segment-load.ensures.value e o)))
          (rest_fits (ctx e) (slot e) (load e) (first e) (rest e) (ready e o5 f));
      cause = BlamesButMem-then start (run c.floats_of-floats.new.calc) (run c.with_segment-load.new.calc) _ more g4 c.with_segment-load.ensures.goes p4
          (λ f e o.
          let o3 = takes.goes.closes e (c.floats_of-floats.ensures.goes.closes e o) in
          let o5 = copied.goes.closes e (holds.goes.closes e o3) in
          let all = ready e o5 (f e (c.loop-next.invariant.goes.closes e o5)) in
          let floats = ap float_boxes (bare-same at e cut.first.now) ∙ sym (c.as_slice.ensures.value ∙ c.floats_of-floats.ensures.value e o) in (
            (subst (λ (l : List ℕ). PlacesFit (ctx e) (load e).met.floats (slot e).least (slot e).top l) floats (first_places (ctx e) (slot e) (load e) (first e) (rest e) all), all.tall),
            all.reach,
          ))
          c.with_segment-load.ensures.cause;
      goes = Goes-then _ _ _ g4 c.with_segment-load.ensures.goes;
      wide = λ e o.
          let o3 = takes.goes.closes e (c.floats_of-floats.ensures.goes.closes e (c.with_segment-load.ensures.goes.closes e o)) in
          let o5 = copied.goes.closes e (holds.goes.closes e o3) in
          wide_back (first e) (rest e) (subst AreWide (pieces_joined at e c.loop-next.rest.pieces.now cut.first.now cut.rest.pieces.now c.in-Some.ensures.joined) (c.loop-next.invariant.wide e o5));
      value = λ e o.
          let o1 = c.with_segment-load.ensures.goes.closes e o in
          let o2 = c.floats_of-floats.ensures.goes.closes e o1 in
          let o3 = c.takes_more.ensures.goes.closes e o2 in
          let o4 = c.with_pieces-held.ensures.goes.closes e o3 in
          let o5 = c.copy_held-before.ensures.goes.closes e o4 in
          let held = c.with_pieces-held.ensures.value e o3 ∙ ap (λ h. held_with h (pieces_at at cut.first.now e)) (c.copy_held-before.ensures.value e o4) in
          leap-next at e (context_at at c.args.container.now e) (slot_at at c.args.slot.now e) (load_at at c.loop-next.load e) c.loop-next.rest cut.rest cut.first.now cut.count c.loop-next.most c.in-Some.ensures
          (held_at at c.with_pieces-held.result e) (bare_of cut.first.now) c.as_slice.result.now (load_at at c.with_segment-load.result e) (c.loop-next.invariant.wide e o5) held (c.if-not-takes_more.ensures.value e o2) (bare-same at e cut.first.now)
          (c.as_slice.ensures.value ∙ c.floats_of-floats.ensures.value e o1) (c.with_segment-load.ensures.value e o)
          ∙ c.loop-next.invariant.value e o5;
    }

pub returns : goal.returns
returns g c = record {
  goes = c.loop-next.invariant.goes;
  value = λ e o.
      let at = g.S.Steady.at in
      none-left (context_at at c.args.container.now e) (slot_at at c.args.slot.now e) (load_at at c.loop-next.load e) (parts_at at c.loop-next.rest e) (parts-same at e c.loop-next.rest [] (grind arith))
      ∙ c.loop-next.invariant.value e o;
  cause = c.loop-next.invariant.cause;
}
