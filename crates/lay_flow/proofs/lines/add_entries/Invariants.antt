use Rattle.std.proofs.Common.{◌≡◌, ◌++◌, flat_map, IsTrue}
use Rattle.viz_calc.specs.World.{Reading}
use Rattle.viz_calc.specs.Run.{Goes, BlamesButMem}
use Rattle.std.specs.List.{AllByRecursion}
use Rattle.lay_flow.specs.Low.{AreApartLow}
use Rattle.lay_flow.specs.Fits.{IsEntryLow}
use Rattle.lay_frame.specs.Readings.{boxes_at}
use Rattle.lay_line.specs.Readings.{entries_at}
use Rattle.lay_flow.specs.Readings.{apart_at}
use Rattle.lay_steps.specs.Flow.{entry_of}
use Rattle.lay_flow.proofs.lines.add_entries.Given as goal

abbrev pub invariant-loop-entry : goal.invariant-loop-entry
invariant-loop-entry g l =
    let at = g.S.Steady.at in
    let run = g.S.Steady.run in
    record {
      goes : Goes (run l.initial.calc) (run l.calc);
      value : (e : Reading) → IsTrue ((run l.calc).is_open e)
          → boxes_at at l.out.items e ++ flat_map (entry_of l.page.tree.now e.world (apart_at at l.page.apart.now e)) (entries_at at l.entry-iterator.rest.items e)
          ≡ boxes_at at l.initial.out.items e ++ flat_map (entry_of l.page.tree.now e.world (apart_at at l.page.apart.now e)) (entries_at at l.fn.entries.items e);
      cause : BlamesButMem (run l.initial.calc) (run l.calc)
          ((e : Reading) → IsTrue ((run l.initial.calc).is_open e) → AreApartLow (apart_at at l.page.apart.now e) × AllByRecursion IsEntryLow (entries_at at l.fn.entries.items e));
      left : (e : Reading) → AllByRecursion IsEntryLow (entries_at at l.fn.entries.items e) → AllByRecursion IsEntryLow (entries_at at l.entry-iterator.rest.items e);
    }
