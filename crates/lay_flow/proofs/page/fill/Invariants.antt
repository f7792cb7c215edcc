use Rattle.std.proofs.Common.{◌≡◌, IsTrue}
use Rattle.viz_calc.specs.World.{Reading}
use Rattle.viz_calc.specs.Run.{Goes, BlamesButMem}
use Rattle.lay_preferred.specs.Readings.{AreFound}
use Rattle.lay_flow.specs.Readings.{table_at}
use Rattle.lay_steps.specs.Tables.{table_to}
use Rattle.lay_flow.specs.IndependentFits.{TableFits}
use Rattle.lay_flow.specs.WalkFits.{AllFit}
use Rattle.lay_flow.proofs.page.fill.Given as goal

abbrev pub invariant-loop-done : goal.invariant-loop-done
invariant-loop-done g l =
    let at = g.S.Steady.at in
    let run = g.S.Steady.run in
    record {
      goes : Goes (run l.initial.calc) (run l.calc);
      found : AreFound at (run l.calc) l.tree l.found.widths.items;
      value : (e : Reading) → IsTrue ((run l.calc).is_open e) → table_at at l.table.places.items e ≡ table_to l.tree e.world l.done;
      cause : BlamesButMem (run l.initial.calc) (run l.calc) (AllFit l.tree (run l.initial.calc).is_open (λ (e : Reading). TableFits l.tree e.world));
    }
