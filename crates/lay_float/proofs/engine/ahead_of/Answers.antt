use Rattle.std.proofs.Common.{drop, refl, ap, sym, ◌∙◌}
use Rattle.std.proofs.lemmas.List.{drop-map}
use Rattle.viz_calc.proofs.Runs.{Goes-then, Blames-then}
use Rattle.layout_laws.proofs.Members.{to_map}
use Rattle.lay_float.specs.Readings.{box_at, boxes_at, floats_at}
use Rattle.lay_float.specs.steps.Shelves.{open_from}
use Rattle.lay_float.proofs.Ended.{last_member, last_box, ahead_known, ahead_unknown}
use Rattle.lay_float.proofs.engine.ahead_of.Goals as goal

pub returns-in-Some : goal.returns-in-Some
returns-in-Some g c = record {
  goes = Goes-then _ _ _ c.larger-high.ensures.goes c.open_from-rest.ensures.goes;
  value = λ e o.
      let at = g.S.Steady.at in
      let o1 = c.open_from-rest.ensures.goes.closes e o in
      let known = c.in-Some.ensures in
      let last = c.in-Some.last.now in
      let placed = c.args.floats.now.placed in
      ahead_known (floats_at at c.args.floats.now e) (boxes_at at c.open_from-rest.result.now e) (boxes_at at c.in-Some.others.now e) known.1 (at last.outer.top e) (at c.args.top.now e) (at c.larger-high.result.now e) (box_at at last e)
      ((c.requires e (c.larger-high.ensures.goes.closes e o1)).level known.1 (box_at at last e) known.2 (last_box (λ f. box_at at f e) placed last known.0))
      (to_map (λ f. box_at at f e) placed last (last_member placed last known.0)) refl
      (ap (λ l. boxes_at at l e) known.3 ∙ sym (drop-map (λ f. box_at at f e) known.1 placed))
      (c.larger-high.ensures.value e o1) (c.open_from-rest.ensures.value e o);
  cause = Blames-then (g.S.Steady.run c.args.calc.now) (g.S.Steady.run c.larger-high.new.calc) (g.S.Steady.run c.open_from-rest.new.calc) _ _ c.larger-high.ensures.goes c.open_from-rest.ensures.goes
      c.larger-high.ensures.cause (λ f e o. tt) c.open_from-rest.ensures.cause;
}

pub returns-in-None : goal.returns-in-None
returns-in-None g c = record {
  goes = Goes-then _ _ _ c.highest_top-high.ensures.goes c.open_from-rest-in-None.ensures.goes;
  value = λ e o.
      let at = g.S.Steady.at in
      let o1 = c.open_from-rest-in-None.ensures.goes.closes e o in
      ahead_unknown (floats_at at c.args.floats.now e) (boxes_at at c.as_slice-all.result.now e) (boxes_at at c.open_from-rest-in-None.result.now e) (at c.args.top.now e) (at c.highest_top-high.result.now e)
      (ap (λ l. boxes_at at l e) c.as_slice-all.ensures) (c.highest_top-high.ensures.value e o1) (c.open_from-rest-in-None.ensures.value e o);
  cause = Blames-then (g.S.Steady.run c.args.calc.now) (g.S.Steady.run c.highest_top-high.new.calc) (g.S.Steady.run c.open_from-rest-in-None.new.calc) _ _ c.highest_top-high.ensures.goes c.open_from-rest-in-None.ensures.goes
      c.highest_top-high.ensures.cause (λ f e o. tt) c.open_from-rest-in-None.ensures.cause;
}
