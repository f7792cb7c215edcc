use Rattle.std.proofs.Common.{◌∙◌, sym, subst}
use Rattle.std.specs.List.{AllByRecursion}
use Rattle.viz_calc.specs.World.{Reading}
use Rattle.viz_calc.proofs.Runs.{Goes-then}
use Rattle.lay_float.specs.Readings.{option_at}
use Rattle.lay_line.specs.Readings.{entry_at, entries_at}
use Rattle.lay_line.proofs.Chains.{Chain, next}
use Rattle.lay_line.proofs.Found.{all-here, all-from}
use Rattle.lay_flow.specs.Low.{AreLevelsLow}
use Rattle.lay_flow.specs.Fits.{IsEntryLow}
use Rattle.lay_flow.proofs.InLines.{one-raised}
use Rattle.lay_flow.proofs.Spots.{tops-low}
use Rattle.lay_flow.proofs.lines.raised_by.Goals as goal

pub loop-entry-preserved : goal.loop-entry-preserved
loop-entry-preserved g c =
    let at = g.S.Steady.at in
    let run = g.S.Steady.run in
    let next_best = c.raised_with-best.ensures in
    let xs = c.args.entries.now in
    let k = c.loop-entry.entry-index in
    let x = c.entry-item.result in
    let so_far : Chain (run c.args.calc.now) (run c.loop-entry.calc) (λ (e : Reading). AreLevelsLow (option_at at c.args.least e) × AllByRecursion IsEntryLow (entries_at at xs e)) =
    record { goes = c.loop-entry.invariant.goes; cause = c.loop-entry.invariant.cause } in
    let here = (λ (e : Reading) (a : AllByRecursion IsEntryLow (entries_at at xs e)). all-here IsEntryLow (λ y. entry_at at y e) xs k x c.loop-entry-test.true c.entry-item.is (all-from IsEntryLow (λ y. entry_at at y e) xs k a)) in
    record {
      goes = Goes-then _ _ _ c.loop-entry.invariant.goes next_best.goes;
      value = λ e o.
          one-raised at e xs k x (option_at at c.loop-entry.best e) (option_at at c.raised_with-best.result e) c.loop-entry-test.true c.entry-item.is (next_best.value e o)
          ∙ c.loop-entry.invariant.value e (next_best.goes.closes e o);
      cause = (next so_far next_best.goes next_best.cause (λ f e o. (c.loop-entry.invariant.low e o (f e o), here e (f e o).1))).cause;
      low = λ e o p.
          subst AreLevelsLow (sym (next_best.value e o))
          (tops-low (option_at at c.loop-entry.best e) (entry_at at x e) (c.loop-entry.invariant.low e (next_best.goes.closes e o) p) (here e p.1));
    }
