use Rattle.std.proofs.Common.{arith}
use Rattle.std.proofs.lemmas.Grind.{common_steps}
use Rattle.viz_calc.proofs.Runs.{Goes-then, BlamesButMem-then}
use Rattle.lay_line.specs.Contexts.{context_at}
use Rattle.lay_line.specs.Fits.{WidthFits}
use Rattle.lay_line.specs.Items.{item_of, summed}
use Rattle.lay_line.specs.steps.Content.{IsSum}
use Rattle.lay_line.proofs.Found.{all-here, all-later}
use Rattle.lay_line.proofs.sizes.measure.Goals as goal

pub loop-item-preserved : goal.loop-item-preserved
loop-item-preserved g c =
    let at = g.S.Steady.at in
    let run = g.S.Steady.run in
    let all = c.args.items.now in
    let k = c.loop-item.item-index in
    let width = c.item_width-width.ensures in
    let goes = Goes-then _ _ _ c.loop-item.invariant.goes width.goes in
    let first = BlamesButMem-then (run c.args.calc.now) (run c.loop-item.calc) (run c.item_width-width.new.calc) _ _ c.loop-item.invariant.goes width.goes c.loop-item.invariant.cause
    (λ f e o. all-here (WidthFits (context_at at c.args.container.now e)) item_of all k c.item-item.result c.loop-item-test.true c.item-item.is
    (c.loop-item.invariant.fits e (f e (c.loop-item.invariant.goes.closes e o))))
    (record { coeff = width.cause.coeff; opens = width.cause.opens }) in
    record {
      goes = Goes-then _ _ _ goes c.add_piece.ensures.goes;
      value = λ e o. grind (arith, common_steps);
      kept = all-later (IsSum c.args.container.now.tree.now) summed all k c.loop-item.invariant.kept;
      fits = λ e f. all-later (WidthFits (context_at at c.args.container.now e)) item_of all k (c.loop-item.invariant.fits e f);
      cause = BlamesButMem-then (run c.args.calc.now) (run c.item_width-width.new.calc) (run c.add_piece.new.calc) _ _ goes c.add_piece.ensures.goes first (λ f e o. tt) c.add_piece.ensures.cause;
    }
