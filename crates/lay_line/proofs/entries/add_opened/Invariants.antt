use Rattle.std.proofs.Common.{◌≡◌, ◌++◌, drop, IsTrue}
use Rattle.viz_calc.specs.World.{Reading}
use Rattle.viz_calc.specs.Run.{Goes, BlamesButMem}
use Rattle.lay_line.specs.Contexts.{context_at}
use Rattle.lay_line.specs.LineFits.{BoxesFit, SetFits}
use Rattle.lay_line.specs.Readings.{entries_at, set_line_at}
use Rattle.lay_line.specs.steps.Entries.{opened_in}
use Rattle.lay_line.proofs.entries.add_opened.Given as goal

abbrev pub invariant-loop-at : goal.invariant-loop-at
invariant-loop-at g l =
    let at = g.S.Steady.at in
    let run = g.S.Steady.run in
    record {
      goes : Goes (run l.initial.calc) (run l.calc);
      value : (e : Reading) → IsTrue ((run l.calc).is_open e)
          → entries_at at l.entries e ++ opened_in (context_at at l.container e) (set_line_at at l.line e) (drop l.at-index l.opened)
          ≡ entries_at at l.initial.entries e ++ opened_in (context_at at l.container e) (set_line_at at l.line e) l.opened;
      cause : BlamesButMem (run l.initial.calc) (run l.calc) ((e : Reading) → IsTrue ((run l.initial.calc).is_open e)
          → BoxesFit (context_at at l.container e) × SetFits (set_line_at at l.line e));
    }
