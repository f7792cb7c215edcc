use Rattle.std.proofs.Common.{arith}
use Rattle.std.proofs.lemmas.Grind.{common_steps}
use Rattle.lay_line.specs.Items.{items_of}
use Rattle.lay_preferred.proofs.Inline.{inline-by-parts}
use Rattle.viz_calc.proofs.Runs.{Goes-then}
use Rattle.lay_preferred.proofs.inlines.inline_widths.Goals as goal

pub returns : goal.returns
returns g c = record {
  goes = Goes-then _ _ _ c.least_inline-least.ensures.goes c.most_inline-most.ensures.goes;
  value = λ e o.
      inline-by-parts g.S.Steady.at e c.args.tree.now (items_of c.args.items.now) c.args.pieces.now (g.S.Steady.at c.least_inline-least.result e) (g.S.Steady.at c.most_inline-most.result e)
      (c.least_inline-least.ensures.value e (c.most_inline-most.ensures.goes.closes e o)) (c.most_inline-most.ensures.value e o);
  cause = grind (arith, common_steps);
}
