use Rattle.std.proofs.Common.{ap, ◌∙◌}
use Rattle.std.specs.Option.{option_to_list}
use Rattle.layout_semantics.specs.Extremes.{greatest_from}
use Rattle.lay_float.specs.Readings.{boxes_at}
use Rattle.lay_float.proofs.Rooms.{lowest_is}
use Rattle.viz_calc.proofs.Blamed.{Blames-given}
use Rattle.viz_calc.proofs.Runs.{Goes-then, Blames-then}
use Rattle.lay_float.proofs.engine.lowest_or.Goals as goal

pub returns-in-Some : goal.returns-in-Some
returns-in-Some g c = record {
  goes = Goes-then _ _ _ c.lowest_bottom.ensures.goes c.larger.ensures.goes;
  value = λ e o.
      let at = g.S.Steady.at in
      c.larger.ensures.value e o
      ∙ ap (λ l. greatest_from (at c.args.y.now e) (option_to_list l)) (c.in-Some.ensures.value e (c.larger.ensures.goes.closes e o) ∙ lowest_is c.args.clear (boxes_at at c.args.floats.now e));
  cause = Blames-then _ _ _ _ _ c.lowest_bottom.ensures.goes c.larger.ensures.goes (Blames-given _ _ _ _ (λ f. tt) c.lowest_bottom.ensures.cause) (λ f e o. tt) c.larger.ensures.cause;
}

pub returns-in-None : goal.returns-in-None
returns-in-None g c = record {
  goes = c.lowest_bottom.ensures.goes;
  value = λ e o.
      let at = g.S.Steady.at in
      ap (λ l. greatest_from (at c.args.y.now e) (option_to_list l)) (c.in-None.ensures.value e o ∙ lowest_is c.args.clear (boxes_at at c.args.floats.now e));
  cause = Blames-given _ _ _ _ (λ f. tt) c.lowest_bottom.ensures.cause;
}
