use Rattle.std.proofs.Common.{◌+◌, ◌∙◌, ap, sym, get_or, drop, slice_set, Some}
use Rattle.viz_calc.specs.World.{Reading}
use Rattle.viz_calc.proofs.Runs.{Goes-then}
use Rattle.lay_line.specs.Contexts.{table_at}
use Rattle.lay_line.proofs.Chains.{Chain, next}
use Rattle.lay_flow.specs.Low.{AreApartLow}
use Rattle.lay_flow.specs.Readings.{apart_at}
use Rattle.lay_steps.specs.Flow.{filled_table}
use Rattle.lay_flow.proofs.InLines.{one-number, one-set}
use Rattle.lay_flow.proofs.lines.fill.Goals as goal

pub loop-at-preserved : goal.loop-at-preserved
loop-at-preserved g c =
    let at = g.S.Steady.at in
    let inner = c.inner_of-inner.ensures in
    let tree = c.args.page.now.tree.now in
    let run = g.S.Steady.run in
    let so_far : Chain (run c.args.calc.now) (run c.loop-at.calc) (λ (e : Reading). AreApartLow (apart_at at c.args.page.now.apart.now e)) = record { goes = c.loop-at.invariant.goes; cause = c.loop-at.invariant.cause } in
    record {
      goes = Goes-then _ _ _ c.loop-at.invariant.goes inner.goes;
      value = λ e o.
          let apart = apart_at at c.args.page.now.apart.now e in
          let old = table_at at c.loop-at.table.items e in
          let boxes = c.args.boxes.now in
          let k = c.loop-at.at-index in
          let b = get_or boxes k 0 in
          one-number (λ ks table. filled_table tree e.world apart table ks) boxes k 0 old (table_at at c.put.new.table.items e) c.loop-at-test.true
          (sym (ap (λ table. filled_table tree e.world apart table (drop (k + 1) boxes))
          (one-set at e c.loop-at.table.items c.put.new.table.items b c.inner_of-inner.result c.put.ensures ∙ ap (λ x. slice_set old b (Some x)) (inner.value e o))))
          ∙ c.loop-at.invariant.value e (inner.goes.closes e o);
      cause = (next so_far inner.goes inner.cause (λ f e o. f e o (get_or c.args.boxes.now c.loop-at.at-index 0))).cause;
    }
