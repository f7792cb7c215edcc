use Rattle.std.proofs.Common.{◌≡◌, true, false, arith, sym, subst, ◌∙◌}
use Rattle.std.proofs.lemmas.Grind.{common_steps}
use Rattle.viz_calc.specs.World.{Reading}
use Rattle.viz_calc.proofs.Runs.{Goes-then, BlamesButMem-then}
use Rattle.viz_calc.specs.Renderings.{band_at}
use Rattle.layout_semantics.specs.FlowBoxes.{flow_children}
use Rattle.layout_semantics.specs.InlineContent.{holds_inline, is_floated_at}
use Rattle.lay_margin.specs.Fitting.{LeadFits, KidsFit}
use Rattle.lay_margin.specs.Readings.{floats_at, passed_by}
use Rattle.lay_margin.specs.Runs.{run_at}
use Rattle.lay_margin.specs.steps.Leads.{enters, going_at, lead_of}
use Rattle.viz_calc.proofs.Blamed.{ButMem-given, Blames-but-mem}
use Rattle.lay_margin.proofs.Fitted.{box-fits, kids-fit}
use Rattle.lay_tree.proofs.Kids.{flow-kids}
use Rattle.lay_margin.proofs.KidSteps.{kid-through}
use Rattle.lay_margin.proofs.Levels.{lead-is}
use Rattle.lay_margin.proofs.leads.+lead.Goals.{kid-in-Through, kid-in_default}
use Rattle.lay_margin.proofs.leads.+lead.Goals as goal

pub lead-returns-then-stops_at : goal.lead-returns-then-stops_at
lead-returns-then-stops_at g t c = record {
  goes = c.end_at.ensures.goes;
  value = λ e o.
      let at = g.S.Steady.at in
      let is = lead-is c.args.tree.now e.world (passed_by c.args.past) c.args.b (band_at at c.args.cb.now e) (run_at at c.args.run.now e) (floats_at at c.args.waiting.now e) c.requires in
      grind (arith, common_steps);
  cause =
      let at = g.S.Steady.at in
      let run = g.S.Steady.run in
      Blames-but-mem (run c.args.calc.now) (run c.end_at.new.calc) _ _
      (λ f e o. (box-fits c.args.tree.now e.world (band_at at c.args.cb.now e) c.args.b (f e o)).band)
      c.end_at.ensures.cause;
}

pub lead-returns : goal.lead-returns
lead-returns g t c = record {
  goes = grind (arith, common_steps);
  value = λ e o.
      let at = g.S.Steady.at in
      let is = lead-is c.args.tree.now e.world (passed_by c.args.past) c.args.b (band_at at c.args.cb.now e) (run_at at c.args.run.now e) (floats_at at c.args.waiting.now e) c.requires in
      grind (arith, common_steps);
  cause = grind (arith, common_steps);
}

pub inner-returns-then-not-enters : goal.inner-returns-then-not-enters
inner-returns-then-not-enters g t c = record {
  goes = Goes-then _ _ _ c.join_top.ensures.goes c.end_at.ensures.goes;
  value = grind (arith, common_steps);
  cause =
      let at = g.S.Steady.at in
      let run = g.S.Steady.run in
      let top = c.join_top.ensures in
      let first = Blames-but-mem (run c.args.calc.now) (run c.join_top.new.calc) _ _
      (λ f e o. (box-fits c.args.tree.now e.world (band_at at c.args.cb.now e) c.args.b (f e o)).top) top.cause in
      BlamesButMem-then (run c.args.calc.now) (run c.join_top.new.calc) (run c.end_at.new.calc) _ _ top.goes c.end_at.ensures.goes first
      (λ f e o. (box-fits c.args.tree.now e.world (band_at at c.args.cb.now e) c.args.b (f e (top.goes.closes e o))).band)
      (Blames-but-mem (run c.join_top.new.calc) (run c.end_at.new.calc) _ _ (λ f. f) c.end_at.ensures.cause);
}

pub inner-returns : goal.inner-returns
inner-returns g t c = record {
  goes = Goes-then _ _ _ (Goes-then _ _ _ (Goes-then _ _ _ c.join_top.ensures.goes c.band_inside-band.ensures.goes) c.content-inside.ensures.goes) c.close.ensures.goes;
  value = grind (arith, common_steps);
  cause =
      let at = g.S.Steady.at in
      let run = g.S.Steady.run in
      let tree = c.args.tree.now in
      let b = c.args.b in
      let goes_in : enters tree b ≡ true = grind arith in
      let top = c.join_top.ensures in
      let band = c.band_inside-band.ensures in
      let inside = c.content-inside.ensures in
      let fits = (λ (e : Reading) (f : LeadFits tree e.world (band_at at c.args.cb.now e) b). box-fits tree e.world (band_at at c.args.cb.now e) b f) in
      let first = Blames-but-mem (run c.args.calc.now) (run c.join_top.new.calc) _ _ (λ f e o. (fits e (f e o)).top) top.cause in
      let second = BlamesButMem-then (run c.args.calc.now) (run c.join_top.new.calc) (run c.band_inside-band.new.calc) _ _ top.goes band.goes first
      (λ f e o. (fits e (f e (top.goes.closes e o))).inside goes_in)
      (Blames-but-mem (run c.join_top.new.calc) (run c.band_inside-band.new.calc) _ _ (λ f. f) band.cause) in
      let to_band = Goes-then (run c.args.calc.now) (run c.join_top.new.calc) (run c.band_inside-band.new.calc) top.goes band.goes in
      let third = BlamesButMem-then (run c.args.calc.now) (run c.band_inside-band.new.calc) (run c.content-inside.new.calc) _ _ to_band inside.goes second
      (λ f e o. subst (λ x. KidsFit tree e.world x (flow_children tree b)) (sym (band.value e o)) (kids-fit tree e.world (band_at at c.args.cb.now e) b goes_in (f e (to_band.closes e o))))
      inside.cause in
      let to_end = Goes-then (run c.args.calc.now) (run c.band_inside-band.new.calc) (run c.content-inside.new.calc) to_band inside.goes in
      BlamesButMem-then (run c.args.calc.now) (run c.content-inside.new.calc) (run c.close.new.calc) _ _ to_end c.close.ensures.goes third
      (λ f e o. (fits e (f e (to_end.closes e o))).band)
      (Blames-but-mem (run c.content-inside.new.calc) (run c.close.new.calc) _ _ (λ f. f) c.close.ensures.cause);
}

pub content-returns-then-not-holds_inline : goal.content-returns-then-not-holds_inline
content-returns-then-not-holds_inline g t c = record {
  goes = grind (arith, common_steps);
  value = grind (arith, common_steps);
  cause =
      let at = g.S.Steady.at in
      let run = g.S.Steady.run in
      let tree = c.args.tree.now in
      let no_lines : holds_inline tree c.args.b ≡ false = grind arith in
      ButMem-given (run c.args.calc.now) (run c.kids.new.calc) _ _
      (λ f e o. subst (KidsFit tree e.world (band_at at c.args.band.now e)) (flow-kids tree c.args.b no_lines ∙ sym c.children.ensures.value) (f e o))
      c.kids.ensures.cause;
}

pub kid-returns : goal.kid-returns
kid-returns g t c = record {
  goes = Goes-then _ _ _ (Goes-then _ _ _ c.lead-end.ensures.goes c.join_bottom.ensures.goes) c.end_at-2.ensures.goes;
  value = elim c.match-matches.branch [
    | kid-in-Through w ↦ λ e o.
        let at = g.S.Steady.at in
        let tree = c.args.tree.now in
        let band = band_at at c.args.band.now e in
        let passed = passed_by c.args.past in
        let in_flow : is_floated_at tree c.args.k ≡ false = grind arith in
        let o1 = c.end_at-2.ensures.goes.closes e o in
        let o2 = c.join_bottom.ensures.goes.closes e o1 in
        kid-through tree e.world passed (lead_of tree e.world passed band) band c.args.k (run_at at c.args.run.now e) (floats_at at c.args.waiting.now e)
        (going_at at c.lead-end.new.run c.lead-end.new.waiting c.lead-end.result e) (run_at at c.join_bottom.new.run e) c.end_at-2.result.end (band_at at c.end_at-2.result.cb e)
        in_flow (sym (c.lead-end.ensures.value e o2)) w.in-Through.is (c.join_bottom.ensures.value e o1) c.end_at-2.ensures.end (c.end_at-2.ensures.value e o)
    | kid-in_default w ↦ absurd (grind arith)
  ];
  cause =
      let at = g.S.Steady.at in
      let run = g.S.Steady.run in
      let tree = c.args.tree.now in
      let in_flow : is_floated_at tree c.args.k ≡ false = grind arith in
      let own = c.lead-end.ensures in
      let below = c.join_bottom.ensures in
      let first = ButMem-given (run c.args.calc.now) (run c.lead-end.new.calc) _ _ (λ f e o. (f e o).1 in_flow) own.cause in
      let second = BlamesButMem-then (run c.args.calc.now) (run c.lead-end.new.calc) (run c.join_bottom.new.calc) _ _ own.goes below.goes first
      (λ f e o. (box-fits tree e.world (band_at at c.args.band.now e) c.args.k ((f e (own.goes.closes e o)).1 in_flow)).bottom)
      (Blames-but-mem (run c.lead-end.new.calc) (run c.join_bottom.new.calc) _ _ (λ f. f) below.cause) in
      let goes = Goes-then (run c.args.calc.now) (run c.lead-end.new.calc) (run c.join_bottom.new.calc) own.goes below.goes in
      BlamesButMem-then (run c.args.calc.now) (run c.join_bottom.new.calc) (run c.end_at-2.new.calc) _ _ goes c.end_at-2.ensures.goes second
      (λ f e o. (f e (goes.closes e o)).0)
      (Blames-but-mem (run c.join_bottom.new.calc) (run c.end_at-2.new.calc) _ _ (λ f. f) c.end_at-2.ensures.cause);
}
