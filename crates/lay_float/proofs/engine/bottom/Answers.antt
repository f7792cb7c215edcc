use Rattle.std.proofs.Common.{Some, ap, ◌∙◌}
use Rattle.viz_calc.proofs.Runs.{Blames-then}
use Rattle.lay_float.specs.Readings.{boxes_at}
use Rattle.lay_float.proofs.Rooms.{lowest_is, any_relevant, bottom_small}
use Rattle.lay_float.proofs.engine.bottom.Goals as goal

pub returns-in-Some-clause-value : goal.returns-in-Some-clause-value
returns-in-Some-clause-value g c = λ e o.
    let at = g.S.Steady.at in
    ap Some (c.copy.ensures.value e o) ∙ c.in-Some.ensures.value e (c.copy.ensures.goes.closes e o) ∙ lowest_is c.args.clear (boxes_at at c.args.floats.now e)

pub returns-in-Some-clause-some : goal.returns-in-Some-clause-some
returns-in-Some-clause-some g c = λ e. c.in-Some.ensures.some ∙ any_relevant g.S.Steady.at c.args.clear c.args.floats.now e

pub returns-in-Some-clause-cause : goal.returns-in-Some-clause-cause
returns-in-Some-clause-cause g c =
    let at = g.S.Steady.at in
    let run = g.S.Steady.run in
    Blames-then (run c.args.calc.now) (run c.lowest_bottom.new.calc) (run c.copy.new.self) _ _ c.lowest_bottom.ensures.goes c.copy.ensures.goes
    (record { mem = c.lowest_bottom.ensures.cause.mem; coeff = λ f. c.lowest_bottom.ensures.cause.coeff tt; opens = c.lowest_bottom.ensures.cause.opens })
    (λ f e o. (
      bottom_small c.args.clear (boxes_at at c.args.floats.now e) (at c.in-Some.bottom.now e) (f e (c.lowest_bottom.ensures.goes.closes e o))
          (c.in-Some.ensures.value e o ∙ lowest_is c.args.clear (boxes_at at c.args.floats.now e)),
      tt,
    ))
    c.copy.ensures.cause

pub returns-in-None-clause-value : goal.returns-in-None-clause-value
returns-in-None-clause-value g c = λ e o. c.in-None.ensures.value e o ∙ lowest_is c.args.clear (boxes_at g.S.Steady.at c.args.floats.now e)

pub returns-in-None-clause-some : goal.returns-in-None-clause-some
returns-in-None-clause-some g c = λ e. c.in-None.ensures.some ∙ any_relevant g.S.Steady.at c.args.clear c.args.floats.now e
