use Rattle.std.proofs.Common.{◌≡◌, drop, IsTrue}
use Rattle.viz_calc.specs.World.{Reading}
use Rattle.viz_calc.specs.Run.{Goes, Blames}
use Rattle.lay_line.specs.Contexts.{context_at}
use Rattle.lay_line.specs.Items.{bare_of}
use Rattle.lay_line.specs.Limits.{BoxesReach}
use Rattle.lay_line.specs.Readings.{line_extent_at}
use Rattle.lay_line.specs.steps.Loading.{reaching}
use Rattle.lay_line.proofs.loads.extended.Given as goal

abbrev pub invariant-loop-piece : goal.invariant-loop-piece
invariant-loop-piece g l =
    let at = g.S.Steady.at in
    let run = g.S.Steady.run in
    record {
      goes : Goes (run l.initial.calc) (run l.calc);
      value : (e : Reading) → IsTrue ((run l.calc).is_open e)
          → reaching (context_at at l.container e) (line_extent_at at l.extent e) (bare_of (drop l.piece-index l.pieces))
          ≡ reaching (context_at at l.container e) (line_extent_at at l.initial.extent e) (bare_of l.pieces);
      cause : Blames (run l.initial.calc) (run l.calc) ((e : Reading) → IsTrue ((run l.initial.calc).is_open e) → BoxesReach (context_at at l.container e));
    }
