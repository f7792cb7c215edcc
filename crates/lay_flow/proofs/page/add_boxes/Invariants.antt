use Rattle.std.proofs.Common.{◌≡◌, ◌<◌, ℕ, drop, length, IsTrue}
use Rattle.std.specs.List.{AllByRecursion}
use Rattle.viz_calc.specs.World.{Reading}
use Rattle.viz_calc.specs.Run.{Goes, BlamesButMem}
use Rattle.lay_preferred.specs.Readings.{AreFound}
use Rattle.lay_flow.specs.Readings.{table_at}
use Rattle.lay_steps.specs.Tables.{with_boxes}
use Rattle.lay_flow.specs.IndependentFits.{BoxesAddedFit}
use Rattle.lay_flow.specs.WalkFits.{AllFit}
use Rattle.lay_flow.proofs.page.add_boxes.Given as goal

abbrev pub invariant-loop-k : goal.invariant-loop-k
invariant-loop-k g l =
    let at = g.S.Steady.at in
    let run = g.S.Steady.run in
    record {
      goes : Goes (run l.initial.calc) (run l.calc);
      found : AreFound at (run l.calc) l.tree l.found.widths.items;
      within : AllByRecursion (λ (k : ℕ). k < length l.tree.boxes) (drop l.k-index l.boxes);
      value : (e : Reading) → IsTrue ((run l.calc).is_open e)
          → with_boxes l.tree e.world (table_at at l.table.places.items e) (drop l.k-index l.boxes)
          ≡ with_boxes l.tree e.world (table_at at l.initial.table.places.items e) l.boxes;
      left : ((e : Reading) → IsTrue ((run l.initial.calc).is_open e) → BoxesAddedFit l.tree e.world (table_at at l.initial.table.places.items e) l.boxes)
          → (e : Reading) → IsTrue ((run l.calc).is_open e) → BoxesAddedFit l.tree e.world (table_at at l.table.places.items e) (drop l.k-index l.boxes);
      cause : BlamesButMem (run l.initial.calc) (run l.calc) (AllFit l.tree (run l.initial.calc).is_open
          (λ (e : Reading). BoxesAddedFit l.tree e.world (table_at at l.initial.table.places.items e) l.boxes));
    }
