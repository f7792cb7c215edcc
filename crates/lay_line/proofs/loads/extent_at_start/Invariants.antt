use Rattle.std.proofs.Common.{◌≡◌, drop, IsTrue}
use Rattle.viz_calc.specs.World.{Reading}
use Rattle.viz_calc.specs.Run.{Goes, Blames}
use Rattle.lay_line.specs.Contexts.{context_at}
use Rattle.lay_line.specs.Limits.{BoxesReach}
use Rattle.lay_line.specs.Readings.{line_extent_at}
use Rattle.lay_line.specs.steps.Loading.{reaching_boxes}
use Rattle.lay_line.proofs.loads.extent_at_start.Given as goal

abbrev pub invariant-loop-at : goal.invariant-loop-at
invariant-loop-at g l =
    let at = g.S.Steady.at in
    let run = g.S.Steady.run in
    record {
      goes : Goes (run l.initial.calc) (run l.calc);
      value : (e : Reading) → IsTrue ((run l.calc).is_open e)
          → reaching_boxes (context_at at l.container e) (line_extent_at at l.extent e) (drop l.at-index l.opened)
          ≡ reaching_boxes (context_at at l.container e) (line_extent_at at l.initial.extent e) l.opened;
      cause : Blames (run l.initial.calc) (run l.calc) ((e : Reading) → IsTrue ((run l.initial.calc).is_open e) → BoxesReach (context_at at l.container e));
    }
