use Rattle.std.proofs.Common.{◌≡◌, drop, IsTrue}
use Rattle.viz_calc.specs.World.{Reading}
use Rattle.viz_calc.specs.Run.{Goes, Blames}
use Rattle.lay_flow.specs.Low.{AreApartLow}
use Rattle.lay_line.specs.Contexts.{table_at}
use Rattle.lay_flow.specs.Readings.{apart_at}
use Rattle.lay_steps.specs.Flow.{filled_table}
use Rattle.lay_flow.proofs.lines.fill.Given as goal

abbrev pub invariant-loop-at : goal.invariant-loop-at
invariant-loop-at g l =
    let at = g.S.Steady.at in
    let run = g.S.Steady.run in
    record {
      goes : Goes (run l.initial.calc) (run l.calc);
      value : (e : Reading) → IsTrue ((run l.calc).is_open e)
          → filled_table l.page.tree.now e.world (apart_at at l.page.apart.now e) (table_at at l.table.items e) (drop l.at-index l.boxes)
          ≡ filled_table l.page.tree.now e.world (apart_at at l.page.apart.now e) (table_at at l.initial.table.items e) l.boxes;
      cause : Blames (run l.initial.calc) (run l.calc) ((e : Reading) → IsTrue ((run l.initial.calc).is_open e) → AreApartLow (apart_at at l.page.apart.now e));
    }
