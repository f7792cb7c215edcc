use Rattle.std.proofs.Common.{◌≡◌, ◌+◌, length, IsTrue}
use Rattle.viz_calc.specs.World.{Reading}
use Rattle.viz_calc.specs.Run.{Goes, BlamesButMem}
use Rattle.lay_line.specs.Contexts.{context_at}
use Rattle.lay_line.specs.Limits.{FillFits}
use Rattle.lay_line.specs.Readings.{slot_at, load_at, pieces_at, parts_at}
use Rattle.lay_line.specs.steps.Leaping.{AreWide}
use Rattle.lay_line.specs.steps.Loading.{loading}
use Rattle.lay_line.proofs.loads.fill.Given as goal

abbrev pub invariant-loop-next : goal.invariant-loop-next
invariant-loop-next g l =
    let at = g.S.Steady.at in
    let run = g.S.Steady.run in
    record {
      goes : Goes (run l.initial.calc) (run l.calc);
      value : (e : Reading) → IsTrue ((run l.calc).is_open e)
          → loading (context_at at l.container e) (slot_at at l.slot e) (load_at at l.load e) (parts_at at l.rest e)
          ≡ loading (context_at at l.container e) (slot_at at l.slot e) (load_at at l.initial.load e) (parts_at at l.initial.rest e);
      fits : (e : Reading) → IsTrue ((run l.calc).is_open e)
          → FillFits (context_at at l.container e) (slot_at at l.slot e) (load_at at l.initial.load e) (pieces_at at l.initial.rest.pieces.now e)
          → FillFits (context_at at l.container e) (slot_at at l.slot e) (load_at at l.load e) (pieces_at at l.rest.pieces.now e);
      wide : (e : Reading) → IsTrue ((run l.calc).is_open e) → AreWide (pieces_at at l.rest.pieces.now e);
      cause : BlamesButMem (run l.initial.calc) (run l.calc) ((e : Reading) → IsTrue ((run l.initial.calc).is_open e)
          → FillFits (context_at at l.container e) (slot_at at l.slot e) (load_at at l.initial.load e) (pieces_at at l.initial.rest.pieces.now e));
    }

abbrev pub decreases-loop-next : goal.decreases-loop-next
decreases-loop-next g l = length l.rest.pieces.now + l.most
