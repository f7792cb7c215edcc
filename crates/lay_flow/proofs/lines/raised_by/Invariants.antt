use Rattle.std.proofs.Common.{◌≡◌, drop, fold, flat_map, IsTrue}
use Rattle.viz_calc.specs.World.{Reading}
use Rattle.viz_calc.specs.Run.{Goes, Blames}
use Rattle.std.specs.List.{AllByRecursion}
use Rattle.lay_flow.specs.Low.{AreLevelsLow}
use Rattle.lay_flow.specs.Fits.{IsEntryLow}
use Rattle.layout_semantics.specs.Flow.{raised}
use Rattle.lay_float.specs.Readings.{option_at}
use Rattle.lay_line.specs.Readings.{entries_at}
use Rattle.lay_steps.specs.Flow.{line_tops}
use Rattle.lay_flow.proofs.lines.raised_by.Given as goal

abbrev pub invariant-loop-entry : goal.invariant-loop-entry
invariant-loop-entry g l =
    let at = g.S.Steady.at in
    let run = g.S.Steady.run in
    record {
      goes : Goes (run l.initial.calc) (run l.calc);
      value : (e : Reading) → IsTrue ((run l.calc).is_open e)
          → fold raised (option_at at l.best e) (flat_map line_tops (entries_at at (drop l.entry-index l.entries) e))
          ≡ fold raised (option_at at l.initial.best e) (flat_map line_tops (entries_at at l.entries e));
      cause : Blames (run l.initial.calc) (run l.calc)
          ((e : Reading) → IsTrue ((run l.initial.calc).is_open e) → AreLevelsLow (option_at at l.initial.best e) × AllByRecursion IsEntryLow (entries_at at l.entries e));
      low : (e : Reading) → IsTrue ((run l.calc).is_open e) → AreLevelsLow (option_at at l.initial.best e) × AllByRecursion IsEntryLow (entries_at at l.entries e) → AreLevelsLow (option_at at l.best e);
    }
