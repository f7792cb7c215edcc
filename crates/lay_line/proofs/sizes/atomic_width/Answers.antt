use Rattle.std.proofs.Common.{sym, ◌∙◌}
use Rattle.lay_line.proofs.Tables.{width-some, width-none}
use Rattle.lay_line.proofs.Fitting.{takes-some, takes-none}
use Rattle.lay_line.proofs.sizes.atomic_width.Goals as goal

pub returns-in-Some : goal.returns-in-Some
returns-in-Some g c = record {
  goes = c.copy.ensures.goes;
  value = λ e o. c.copy.ensures.value e o ∙ sym (width-some g.S.Steady.at e c.args.container.now c.args.at c.in-Some.inner.now (sym c.in-Some.ensures));
  cause =
      let one = c.copy.ensures.cause in
      record { mem = one.mem; coeff = λ f. one.coeff (λ e o. takes-some g.S.Steady.at e c.args.container.now c.args.at c.in-Some.inner.now (sym c.in-Some.ensures) (f e o)); opens = one.opens };
}

pub returns-in-None : goal.returns-in-None
returns-in-None g c = record {
  goes = c.zero.ensures.goes;
  value = λ e o. c.zero.ensures.value e o ∙ sym (width-none g.S.Steady.at e c.args.container.now c.args.at (sym c.in-None.ensures));
  cause =
      let one = c.zero.ensures.cause in
      record { mem = one.mem; coeff = λ f. one.coeff (λ e o. takes-none g.S.Steady.at e c.args.container.now c.args.at (sym c.in-None.ensures) (f e o)); opens = one.opens };
}
