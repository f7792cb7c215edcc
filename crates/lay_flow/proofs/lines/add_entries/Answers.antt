use Rattle.std.proofs.Common.{◌≡◌, ◌++◌, flat_map, refl, ap, sym, subst, inl, arith, ◌∙◌}
use Rattle.std.specs.List.{AllByRecursion}
use Rattle.std.proofs.lemmas.List.{nil_from_length}
use Rattle.viz_calc.specs.World.{Reading}
use Rattle.viz_calc.proofs.Runs.{Goes-then}
use Rattle.lay_frame.specs.Readings.{boxes_at}
use Rattle.lay_line.specs.Readings.{entries_at}
use Rattle.lay_line.proofs.Chains.{ChainButMem, next_but_mem}
use Rattle.lay_flow.specs.Low.{AreApartLow}
use Rattle.lay_flow.specs.Fits.{IsEntryLow}
use Rattle.lay_flow.specs.Readings.{apart_at}
use Rattle.lay_steps.specs.Flow.{entry_of}
use Rattle.lay_flow.proofs.InLines.{one-added, none-added}
use Rattle.lay_flow.proofs.lines.add_entries.Goals as goal

pub loop-entry-init : goal.loop-entry-init
loop-entry-init g c =
    let at = g.S.Steady.at in
    let all : c.into_iter-entry-iterator.result.rest.items ≡ c.args.entries.items = c.into_iter-entry-iterator.ensures.into_iter_gives.0 in
    record {
      goes = record { closes = λ e o. o; reached = λ e o. o; lean = refl; coeffs = omega arith; opens = omega arith; kept = refl; lender = refl };
      value = λ e o.
          ap (λ items. boxes_at at c.args.out.now.items e ++ flat_map (entry_of c.args.page.now.tree.now e.world (apart_at at c.args.page.now.apart.now e)) (entries_at at items e)) all;
      cause = record { coeff = λ f h. inl h; opens = λ h. inl h };
      left = λ e a. subst (λ items. AllByRecursion IsEntryLow (entries_at at items e)) (sym all) a;
    }

pub loop-entry-preserved : goal.loop-entry-preserved
loop-entry-preserved g c =
    let at = g.S.Steady.at in
    let added = c.add_entry.ensures in
    let run = g.S.Steady.run in
    let so_far : ChainButMem (run c.args.calc.now) (run c.loop-entry.calc) (λ (e : Reading). AreApartLow (apart_at at c.args.page.now.apart.now e) × AllByRecursion IsEntryLow (entries_at at c.args.entries.items e)) =
    record { goes = c.loop-entry.invariant.goes; cause = c.loop-entry.invariant.cause } in
    let left = (λ (e : Reading) (a : AllByRecursion IsEntryLow (entries_at at c.args.entries.items e)).
    subst (λ items. AllByRecursion IsEntryLow (entries_at at items e)) c.in-Some.ensures.steps.0 (c.loop-entry.invariant.left e a)) in
    record {
      goes = Goes-then _ _ _ c.loop-entry.invariant.goes added.goes;
      value = λ e o.
          one-added at e (entry_of c.args.page.now.tree.now e.world (apart_at at c.args.page.now.apart.now e)) c.loop-entry.entry-iterator.rest.items c.next.new.self.rest.items c.in-Some.entry
          (boxes_at at c.loop-entry.out.items e) (boxes_at at c.add_entry.new.out.items e) c.in-Some.ensures.steps.0 (added.value e o)
          ∙ c.loop-entry.invariant.value e (added.goes.closes e o);
      cause = (next_but_mem so_far added.goes added.cause (λ f e o. ((f e o).0, (left e (f e o).1).0))).cause;
      left = λ e a. (left e a).1;
    }

pub returns : goal.returns
returns g c = record {
  goes = c.loop-entry.invariant.goes;
  value = λ e o.
      let at = g.S.Steady.at in
      none-added at e (entry_of c.args.page.now.tree.now e.world (apart_at at c.args.page.now.apart.now e)) c.loop-entry.entry-iterator.rest.items (boxes_at at c.loop-entry.out.items e) (nil_from_length c.loop-entry.entry-iterator.rest.items (grind arith))
      ∙ c.loop-entry.invariant.value e o;
  cause = c.loop-entry.invariant.cause;
}
