use Rattle.std.proofs.Common.{ap, ◌∙◌}
use Rattle.std.specs.Option.{option_or}
use Rattle.lay_float.specs.Readings.{option_at}
use Rattle.lay_steps.specs.Flow.{Context}
use Rattle.lay_flow.specs.Readings.{context_at}
use Rattle.lay_steps.specs.Flow.{opened, left}
use Rattle.lay_flow.proofs.walk.leave.Goals as goal

pub returns : goal.returns
unfolding left opened
returns g c = record {
  goes = c.open.ensures.goes;
  value = λ e o.
      let at = g.S.Steady.at in
      let inside = option_at at c.args.own.baseline e in
      ap (λ x. record (context_at at c.open.new.context e) { baseline = x })
      (c.baseline_after.ensures at e ∙ ap (λ x. option_or inside (option_at at x e)) c.replace-before.ensures.value)
      ∙ ap (λ (s : Context). record s { baseline = option_or inside s.baseline }) (c.open.ensures.value e o);
  cause = c.open.ensures.cause;
  floats = c.open.ensures.floats;
}
