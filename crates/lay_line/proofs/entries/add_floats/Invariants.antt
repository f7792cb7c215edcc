use Rattle.std.proofs.Common.{◌≡◌, ◌++◌, drop, IsTrue}
use Rattle.viz_calc.specs.World.{Reading}
use Rattle.viz_calc.specs.Run.{Goes, BlamesButMem}
use Rattle.layout_semantics.specs.Fragments.{float_entries}
use Rattle.lay_line.specs.LineFits.{SpotsOnLine}
use Rattle.lay_line.specs.Readings.{entries_at, spots_at}
use Rattle.lay_line.proofs.entries.add_floats.Given as goal

abbrev pub invariant-loop-spot : goal.invariant-loop-spot
invariant-loop-spot g l =
    let at = g.S.Steady.at in
    let run = g.S.Steady.run in
    record {
      goes : Goes (run l.initial.calc) (run l.calc);
      value : (e : Reading) → IsTrue ((run l.calc).is_open e)
          → entries_at at l.entries e ++ float_entries (spots_at at (drop l.spot-index l.spots) e) ≡ entries_at at l.initial.entries e ++ float_entries (spots_at at l.spots e);
      cause : BlamesButMem (run l.initial.calc) (run l.calc) ((e : Reading) → IsTrue ((run l.initial.calc).is_open e) → SpotsOnLine (spots_at at l.spots e));
    }
