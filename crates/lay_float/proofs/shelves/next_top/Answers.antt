use Rattle.std.proofs.Common.{unwrap_or, ap}
use Rattle.lay_float.proofs.shelves.next_top.Goals as goal

pub returns-in-Some : goal.returns-in-Some
returns-in-Some g c = record {
  goes = c.soonest.ensures.goes;
  value = λ e o. let y = g.S.Steady.at c.args.y.now e in ap (λ next. unwrap_or next y) (c.in-Some.ensures.value e o);
  cause = c.soonest.ensures.cause;
}

pub returns-in-None : goal.returns-in-None
returns-in-None g c = record {
  goes = c.soonest.ensures.goes;
  value = λ e o. let y = g.S.Steady.at c.args.y.now e in ap (λ next. unwrap_or next y) (c.in-None.ensures.value e o);
  cause = c.soonest.ensures.cause;
}
