use Rattle.std.proofs.Common.{length, ap, arith}
use Rattle.std.specs.Prelude.{option_map}
use Rattle.std.proofs.lemmas.List.{length-map}
use Rattle.viz_calc.specs.Renderings.{band_at}
use Rattle.lay_float.specs.Readings.{box_at, boxes_at}
use Rattle.lay_float.specs.steps.Lent.{place_at, bracket_at}
use Rattle.lay_float.proofs.BetweenTops.{at-once, first_is, met_at, met_somewhere}
use Rattle.lay_float.proofs.brackets.place_among_many.Goals as goal

pub returns-in-Some-clause-value : goal.returns-in-Some-clause-value
returns-in-Some-clause-value g c = λ e o.
    let at = g.S.Steady.at in
    let w = c.args.wanted.now in
    at-once (boxes_at at w.floats.now e) w.side (at w.width.now e) (band_at at w.cb.now e) (length w.floats.now) (at c.args.high.now e) (at c.in-Some.edge.now e) (c.in-Some.ensures.value e o)

pub returns-in-Some-found-clause-value : goal.returns-in-Some-found-clause-value
returns-in-Some-found-clause-value g c = λ e o.
    let at = g.S.Steady.at in
    let w = c.args.wanted.now in
    let fs = boxes_at at w.floats.now e in
    let o1 = c.closed.ensures.goes.closes e o in
    let none = c.in_default.ensures.value e (c.sampled-sampled.ensures.goes.closes e o1) in
    let high = at c.args.high.now e in
    let first = first_is fs w.side (at w.width.now e) (band_at at w.cb.now e) high none in
    met_at fs w.side (at w.width.now e) (band_at at w.cb.now e) high none (bracket_at at c.sampled-sampled.result e) (bracket_at at c.closed.result e)
    (c.sampled-sampled.ensures.value e o1 high first) (c.closed.ensures.value e o)
    (length w.floats.now) (let t = length-map w.floats.now (λ f. box_at at f e) in omega arith)
    (place_at at c.in-Some-found.place e) (ap (option_map (λ p. place_at at p e)) c.in-Some-found.is)

pub returns-in-None-clause-value : goal.returns-in-None-clause-value
returns-in-None-clause-value g c = λ e o.
    let at = g.S.Steady.at in
    let w = c.args.wanted.now in
    let fs = boxes_at at w.floats.now e in
    let o0 = c.farthest.ensures.goes.closes e o in
    let o1 = c.closed.ensures.goes.closes e o0 in
    let none = c.in_default.ensures.value e (c.sampled-sampled.ensures.goes.closes e o1) in
    let high = at c.args.high.now e in
    let first = first_is fs w.side (at w.width.now e) (band_at at w.cb.now e) high none in
    met_somewhere fs w.side (at w.width.now e) (band_at at w.cb.now e) high none (bracket_at at c.sampled-sampled.result e) (bracket_at at c.closed.result e)
    (c.sampled-sampled.ensures.value e o1 high first) (c.closed.ensures.value e o0)
    (ap (option_map (λ p. place_at at p e)) c.in-None.is)
