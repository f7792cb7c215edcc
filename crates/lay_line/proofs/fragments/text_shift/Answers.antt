use Rattle.std.proofs.Common.{sym, arith}
use Rattle.std.proofs.lemmas.Grind.{common_steps}
use Rattle.viz_calc.specs.World.{Reading}
use Rattle.lay_line.specs.Contexts.{context_at}
use Rattle.lay_line.specs.Fits.{TextShiftFits}
use Rattle.lay_line.proofs.Chains.{start}
use Rattle.lay_line.proofs.Fitting.{text-some}
use Rattle.lay_line.proofs.fragments.text_shift.Goals as goal

pub returns-in-Some : goal.returns-in-Some
unfolding context_at
returns-in-Some g c = record {
  goes = c.inline_shift.ensures.goes;
  value = grind (arith, common_steps);
  cause =
      let ctx = (λ (e : Reading). context_at g.S.Steady.at c.args.container.now e) in
      (start {asks = λ (e : Reading). TextShiftFits (ctx e) c.args.at} c.inline_shift.ensures.goes c.inline_shift.ensures.cause
      (λ f e o. text-some (ctx e) c.args.at c.in-Some.parent (sym c.in-Some.ensures) (f e o))).cause;
}
