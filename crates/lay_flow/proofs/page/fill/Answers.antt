use Rattle.std.proofs.Common.{◌≡◌, ℕ, suc, ◌-◌, ◌<◌, length, refl, sym, subst, inl, arith, ◌∙◌}
use Rattle.viz_calc.proofs.Runs.{Goes-then, BlamesButMem-then}
use Rattle.lay_flow.specs.IndependentFits.{ContainerFits}
use Rattle.lay_flow.specs.Readings.{table_at}
use Rattle.lay_flow.proofs.Givens.{boxes-later}
use Rattle.lay_flow.proofs.TableFacts.{table-none}
use Rattle.lay_steps.proofs.Tables.{next-table, first-table}
use Rattle.lay_flow.proofs.page.fill.Goals as goal

pub loop-done-init : goal.loop-done-init
loop-done-init g c = record {
  goes = record { closes = λ e o. o; reached = λ e o. o; lean = refl; coeffs = omega arith; opens = omega arith; kept = refl; lender = refl };
  found = c.requires.found;
  value = λ e o. table-none g.S.Steady.at e _ _ c.requires.empty ∙ first-table c.args.tree.now e.world;
  cause = record { coeff = λ a h. inl h; opens = λ h. inl h };
}

pub loop-done-preserved : goal.loop-done-preserved
loop-done-preserved g c =
    let at = g.S.Steady.at in
    let tree = c.args.tree.now in
    let done = c.loop-done.invariant in
    let added = c.add_container.ensures in
    record {
      goes = Goes-then _ _ _ done.goes added.goes;
      found = added.found;
      value = λ e o.
          let last : c.args.count - 1 - c.loop-done.done ≡ length tree.boxes - suc c.loop-done.done = let all = c.requires.all in omega (arith, all) in
          next-table tree e.world (table_at at c.loop-done.table.places.items e) (table_at at c.add_container.new.table.places.items e) c.loop-done.done
          (c.args.count - 1 - c.loop-done.done) last (done.value e (added.goes.closes e o)) (added.value e o);
      cause =
          let within : c.loop-done.done < length tree.boxes = let all = c.requires.all in grind arith in
          let last : c.args.count - 1 - c.loop-done.done ≡ length tree.boxes - suc c.loop-done.done = let all = c.requires.all in omega (arith, all) in
          BlamesButMem-then _ _ _ _ _ done.goes added.goes done.cause (λ a. (
            boxes-later tree _ _ done.goes a.0,
            λ e o.
                subst (λ (n : ℕ). ContainerFits tree e.world (table_at at c.loop-done.table.places.items e) n) (sym last)
                (subst (λ t. ContainerFits tree e.world t (length tree.boxes - suc c.loop-done.done)) (sym (done.value e o)) (a.1 e (done.goes.closes e o) c.loop-done.done within)),
          ))
          added.cause;
    }
