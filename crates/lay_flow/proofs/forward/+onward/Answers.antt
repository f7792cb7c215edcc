use Rattle.std.proofs.Common.{◌≡◌, true, false, ◌+◌, drop, get_or, IsTrue, arith, ap, sym, subst, ◌∙◌}
use Rattle.std.proofs.lemmas.List.{drop_more}
use Rattle.std.proofs.lemmas.Grind.{common_steps}
use Rattle.viz_calc.specs.World.{Reading}
use Rattle.viz_calc.proofs.Runs.{Goes-then, BlamesButMem-then}
use Rattle.viz_calc.specs.Renderings.{band_at}
use Rattle.layout_semantics.specs.FlowBoxes.{flow_children}
use Rattle.layout_semantics.specs.InlineContent.{is_floated_at, holds_inline}
use Rattle.lay_line.proofs.Chains.{ChainButMem, but_mem, start_but_mem, next_but_mem}
use Rattle.lay_margin.specs.Readings.{floats_at}
use Rattle.lay_margin.specs.Runs.{run_at}
use Rattle.lay_margin.specs.steps.Leads.{enters, inner_band}
use Rattle.lay_tree.proofs.Kids.{flow-kids}
use Rattle.lay_steps.specs.Forward.{Found, kid_of}
use Rattle.lay_flow.specs.Readings.{end_at}
use Rattle.lay_flow.specs.Ways.{ground_at, way_at, kids_at_reading, WayFitsAt, KidsFitAt, KidFitsAt, AreTried}
use Rattle.lay_flow.specs.declared.parts.End.TheVariants.{GoesOn}
use Rattle.lay_flow.proofs.Tried.{later-tried}
use Rattle.lay_flow.proofs.Ways.{way-inside as one-step}
use Rattle.lay_flow.proofs.WaysLow.{kids-on, way-decides, way-above, way-below, way-band, way-inside, kids-first, kids-later}
use Rattle.lay_flow.proofs.forward.+onward.Goals.{onward-else-stops_at-via-else-stops_at, onward-else-stops_at-via-then-stops_at+in-None-1}
use Rattle.lay_flow.proofs.forward.+onward.Goals as goal

pub onward-returns : goal.onward-returns
onward-returns g t c =
    let at = g.S.Steady.at in
    let way = c.args.way.now in
    let cb = (λ (e : Reading). band_at at c.args.cb.now e) in
    let run = (λ (e : Reading). run_at at c.args.going.now.run e) in
    let waiting = (λ (e : Reading). floats_at at c.args.going.now.waiting e) in
    let chain = start_but_mem {asks = λ (e : Reading). WayFitsAt at way e (cb e) c.args.b (run e) (waiting e)} c.decided.ensures.forward.goes c.decided.ensures.forward.cause
    (λ f e o. way-decides (ground_at at way e) (way_at at way e) (cb e) c.args.b (run e) (waiting e) (f e o)) in
    record {
      goes = chain.goes;
      value = λ e o.
          let is = one-step at c.args.way.now e (band_at at c.args.cb.now e) c.args.b (run_at at c.args.going.now.run e) (floats_at at c.args.going.now.waiting e) c.requires.within in
          grind (arith, common_steps);
      keeps = c.decided.ensures.forward.keeps;
      cause = chain.cause;
    }

pub onward-returns-2 : goal.onward-returns-2
onward-returns-2 g t c = record {
  goes = grind (arith, common_steps);
  value = λ e o.
      let at = g.S.Steady.at in
      let is = one-step at c.args.way.now e (band_at at c.args.cb.now e) c.args.b (run_at at c.args.going.now.run e) (floats_at at c.args.going.now.waiting e) c.requires.within in
      elim c.else-stops_at.branch [
        | onward-else-stops_at-via-else-stops_at w ↦ grind (arith, common_steps)
        | onward-else-stops_at-via-then-stops_at+in-None-1 w ↦ grind (arith, common_steps)
      ];
  keeps = c.inner.ensures.keeps;
  cause =
      let at = g.S.Steady.at in
      let run = g.S.Steady.run in
      let way = c.args.way.now in
      let cb = (λ (e : Reading). band_at at c.args.cb.now e) in
      let margins = (λ (e : Reading). run_at at c.args.going.now.run e) in
      let waiting = (λ (e : Reading). floats_at at c.args.going.now.waiting e) in
      let asks = (λ (e : Reading). WayFitsAt at way e (cb e) c.args.b (margins e) (waiting e)) in
      elim c.else-stops_at.branch [
        | onward-else-stops_at-via-else-stops_at w ↦
            let same : c.else-stops_at.calc ≡ c.args.calc.now = grind arith in
            let same_run : c.args.going.now.run ≡ c.else-stops_at.going.run = grind arith in
            let same_waiting : c.args.going.now.waiting ≡ c.else-stops_at.going.waiting = grind arith in
            let on = start_but_mem {asks = asks} c.inner.ensures.goes c.inner.ensures.cause (λ f e o.
            subst (λ r. WayFitsAt at way e (cb e) c.args.b (run_at at r e) (floats_at at c.else-stops_at.going.waiting e)) same_run
            (subst (λ ws. WayFitsAt at way e (cb e) c.args.b (margins e) (floats_at at ws e)) same_waiting (f e o))) in
            (subst (λ k. ChainButMem (run k) (run c.inner.new.calc) asks) same on).cause
        | onward-else-stops_at-via-then-stops_at+in-None-1 w ↦
            let one = start_but_mem {asks = asks} w.decided.ensures.forward.goes w.decided.ensures.forward.cause
            (λ f e o. way-decides (ground_at at way e) (way_at at way e) (cb e) c.args.b (margins e) (waiting e) (f e o)) in
            let same : c.else-stops_at.calc ≡ w.decided.new.calc = grind arith in
            let same_run : c.args.going.now.run ≡ c.else-stops_at.going.run = grind arith in
            let same_waiting : c.args.going.now.waiting ≡ c.else-stops_at.going.waiting = grind arith in
            let on = start_but_mem {asks = asks} c.inner.ensures.goes c.inner.ensures.cause (λ f e o.
            subst (λ r. WayFitsAt at way e (cb e) c.args.b (run_at at r e) (floats_at at c.else-stops_at.going.waiting e)) same_run
            (subst (λ ws. WayFitsAt at way e (cb e) c.args.b (margins e) (floats_at at ws e)) same_waiting (f e o))) in
            let last = subst (λ k. ChainButMem (run k) (run c.inner.new.calc) asks) same on in
            (next_but_mem one last.goes last.cause (λ f. f)).cause
      ];
}

-- ---- causes

pub inner-returns-then-not-enters : goal.inner-returns-then-not-enters
inner-returns-then-not-enters g t c =
    let at = g.S.Steady.at in
    let way = c.args.way.now in
    let cb = (λ (e : Reading). band_at at c.args.cb.now e) in
    let run = (λ (e : Reading). run_at at c.args.going.now.run e) in
    let waiting = (λ (e : Reading). floats_at at c.args.going.now.waiting e) in
    let chain = start_but_mem {asks = λ (e : Reading). WayFitsAt at way e (cb e) c.args.b (run e) (waiting e)} c.join_top.ensures.goes (but_mem c.join_top.ensures.cause)
    (λ f e o. way-above (ground_at at way e) (way_at at way e) (cb e) c.args.b (run e) (waiting e) (f e o)) in
    record {
      goes = chain.goes;
      value = grind (arith, common_steps);
      keeps = λ e o. c.requires.keeps e (c.join_top.ensures.goes.closes e o);
      cause = chain.cause;
    }

pub inner-returns : goal.inner-returns
inner-returns g t c =
    let at = g.S.Steady.at in
    let way = c.args.way.now in
    let tree = way.page.now.tree.now in
    let b = c.args.b in
    let cb = (λ (e : Reading). band_at at c.args.cb.now e) in
    let run = (λ (e : Reading). run_at at c.args.going.now.run e) in
    let waiting = (λ (e : Reading). floats_at at c.args.going.now.waiting e) in
    let goes_in : enters tree b ≡ true = grind arith in
    let top = c.join_top.ensures in
    let band = c.band_inside-band.ensures in
    let one = start_but_mem {asks = λ (e : Reading). WayFitsAt at way e (cb e) b (run e) (waiting e)} top.goes (but_mem top.cause)
    (λ f e o. way-above (ground_at at way e) (way_at at way e) (cb e) b (run e) (waiting e) (f e o)) in
    let two = next_but_mem one band.goes (but_mem band.cause)
    (λ f e o. way-band (ground_at at way e) (way_at at way e) (cb e) b (run e) (waiting e) (f e o) goes_in) in
    let chain = next_but_mem two c.content-end.ensures.goes c.content-end.ensures.cause (λ f e o.
    subst (λ x. KidsFitAt at way e x (flow_children tree b) (run_at at c.join_top.new.run e) (waiting e)) (sym (band.value e o))
    (subst (λ r. KidsFitAt at way e (inner_band tree e.world (cb e) b) (flow_children tree b) r (waiting e)) (sym (top.value e (band.goes.closes e o)))
    (way-inside (ground_at at way e) (way_at at way e) (cb e) b (run e) (waiting e) (f e o) goes_in))) in
    record {
      goes = chain.goes;
      value = grind (arith, common_steps);
      keeps = c.content-end.ensures.keeps;
      cause = chain.cause;
    }

pub content-returns-then-not-holds_inline : goal.content-returns-then-not-holds_inline
content-returns-then-not-holds_inline g t c =
    let at = g.S.Steady.at in
    let way = c.args.way.now in
    let tree = way.page.now.tree.now in
    let no_lines : holds_inline tree c.args.b ≡ false = grind arith in
    let chain = start_but_mem {asks = λ (e : Reading). KidsFitAt at way e (band_at at c.args.band.now e) (flow_children tree c.args.b) (run_at at c.args.going.now.run e) (floats_at at c.args.going.now.waiting e)} c.kids.ensures.goes c.kids.ensures.cause
    (λ f e o. subst (λ ks. KidsFitAt at way e (band_at at c.args.band.now e) ks (run_at at c.args.going.now.run e) (floats_at at c.args.going.now.waiting e)) (flow-kids tree c.args.b no_lines ∙ sym c.children.ensures.value) (f e o)) in
    record {
      goes = chain.goes;
      value = grind (arith, common_steps);
      keeps = c.kids.ensures.keeps;
      cause = chain.cause;
    }

pub kid-returns-then-matches : goal.kid-returns-then-matches
kid-returns-then-matches g t c =
    let at = g.S.Steady.at in
    let way = c.args.way.now in
    let tree = way.page.now.tree.now in
    let k = c.args.k in
    let band = (λ (e : Reading). band_at at c.args.band.now e) in
    let run = (λ (e : Reading). run_at at c.args.going.now.run e) in
    let waiting = (λ (e : Reading). floats_at at c.args.going.now.waiting e) in
    let in_flow : is_floated_at tree k ≡ false = grind arith in
    let one = start_but_mem {asks = λ (e : Reading). KidFitsAt at way e (band e) k (run e) (waiting e)} c.onward-end.ensures.goes c.onward-end.ensures.cause (λ f e o. (f e o).way in_flow) in
    let chain = next_but_mem one c.join_bottom.ensures.goes (but_mem c.join_bottom.ensures.cause)
    (λ f e o. way-below (ground_at at way e) (way_at at way e) (band e) k (run e) (waiting e) ((f e o).way in_flow)) in
    record {
      goes = chain.goes;
      value = grind (arith, common_steps);
      keeps = λ e o. c.onward-end.ensures.keeps e (c.join_bottom.ensures.goes.closes e o);
      cause = chain.cause;
    }

pub kids-returns-then-not-matches : goal.kids-returns-then-not-matches
unfolding kid_of
kids-returns-then-not-matches g t c = record {
  goes = grind (arith, common_steps);
  value = grind (arith, common_steps);
  keeps = c.kid-end.ensures.keeps;
  cause =
      let at = g.S.Steady.at in
      let way = c.args.way.now in
      let all = c.args.boxes.now in
      let k = c.loop-place.place-index in
      let is = drop_more all k 0 c.loop-place-test.true in
      let inv = c.loop-place.invariant in
      let band = (λ (e : Reading). band_at at c.args.band.now e) in
      let run = (λ (e : Reading). run_at at c.loop-place.going.run e) in
      let waiting = (λ (e : Reading). floats_at at c.loop-place.going.waiting e) in
      BlamesButMem-then _ _ _ _ _ inv.goes c.kid-end.ensures.goes inv.cause
      (λ f e o. kids-first (ground_at at way e) (way_at at way e) (band e) (get_or all k 0) (drop (k + 1) all) (run e) (waiting e)
      (subst (λ ks. KidsFitAt at way e (band e) ks (run e) (waiting e)) is (inv.fits e o (f e (inv.goes.closes e o)))))
      c.kid-end.ensures.cause;
}

pub kids-loop-place-preserved : goal.kids-loop-place-preserved
unfolding kid_of
kids-loop-place-preserved g t c =
    let at = g.S.Steady.at in
    let way = c.args.way.now in
    let tree = way.page.now.tree.now in
    let all = c.args.boxes.now in
    let k = c.loop-place.place-index in
    let b = get_or all k 0 in
    let is = drop_more all k 0 c.loop-place-test.true in
    let inv = c.loop-place.invariant in
    let own = c.kid-end.ensures in
    let ends : c.kid-end.result ≡ GoesOn = grind (arith, common_steps) in
    let band = (λ (e : Reading). band_at at c.args.band.now e) in
    let run = (λ (e : Reading). run_at at c.loop-place.going.run e) in
    let waiting = (λ (e : Reading). floats_at at c.loop-place.going.waiting e) in
    let kid = (λ (e : Reading). kid_of tree e.world (way_at at way e (band e)) (band e)) in
    let here = (λ (e : Reading) (f : KidsFitAt at way e (band e) (drop k all) (run e) (waiting e)). subst (λ ks. KidsFitAt at way e (band e) ks (run e) (waiting e)) is f) in
    let goes = (λ (e : Reading) (o : IsTrue ((g.S.Steady.run c.kid-end.new.calc).is_open e)). sym (ap (λ (x : Found). x.end) (own.value e o)) ∙ ap (λ x. end_at at x e) ends) in
    record {
      goes = Goes-then _ _ _ inv.goes own.goes;
      so_far = λ e o.
          ap (λ (x : Found). kids_at_reading at way e (band e) (drop (k + 1) all) x.run x.waiting) (own.value e o)
          ∙ sym (kids-on tree e.world (kid e) b (drop (k + 1) all) (run e) (waiting e) (goes e o))
          ∙ ap (λ ks. kids_at_reading at way e (band e) ks (run e) (waiting e)) (sym is)
          ∙ inv.so_far e (own.goes.closes e o);
      fits = λ e o f.
          subst (λ (x : Found). KidsFitAt at way e (band e) (drop (k + 1) all) x.run x.waiting) (sym (own.value e o))
          (kids-later (ground_at at way e) (way_at at way e) (band e) b (drop (k + 1) all) (run e) (waiting e) (here e (inv.fits e (own.goes.closes e o) f)) (goes e o));
      keeps = own.keeps;
      cause = BlamesButMem-then _ _ _ _ _ inv.goes own.goes inv.cause
          (λ f e o. kids-first (ground_at at way e) (way_at at way e) (band e) b (drop (k + 1) all) (run e) (waiting e) (here e (inv.fits e o (f e (inv.goes.closes e o)))))
          own.cause;
    }

pub kid-returns-then-is_floated : goal.kid-returns-then-is_floated
kid-returns-then-is_floated g t c =
    let at = g.S.Steady.at in
    let way = c.args.way.now in
    let going = c.args.going.now in
    let wait = c.wait.ensures in
    let chain = start_but_mem {asks = λ (e : Reading). KidFitsAt at way e (band_at at c.args.band.now e) c.args.k (run_at at going.run e) (floats_at at going.waiting e)} wait.goes wait.cause (λ f e o. (f e o).band) in
    record {
      goes = chain.goes;
      value = grind (arith, common_steps);
      keeps = λ e o.
          subst (λ ws. AreTried at way e ws going.tries) (sym (wait.value e o))
          (later-tried at way e going.tries (floats_at at going.waiting e) (record { at = c.args.k; cb = band_at at c.args.band.now e }) (c.requires.keeps e (wait.goes.closes e o)));
      cause = chain.cause;
    }
