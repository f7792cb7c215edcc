use Rattle.std.proofs.Common.{◌≡◌, drop, IsTrue}
use Rattle.viz_calc.specs.World.{Reading}
use Rattle.viz_calc.specs.Run.{Goes, Blames}
use Rattle.viz_calc.specs.Renderings.{band_at}
use Rattle.lay_float.specs.Readings.{boxes_at}
use Rattle.lay_float.specs.steps.Lent.{bracket_at, FitsAnywhere}
use Rattle.lay_float.specs.steps.Brackets.{visited_all}
use Rattle.lay_float.proofs.brackets.closed.Given as goal

-- the bracket so far, with the floats that are left, is the closest
abbrev pub invariant-loop-f : goal.invariant-loop-f
invariant-loop-f g l =
    let at = g.S.Steady.at in
    let run = g.S.Steady.run in
    let w = l.wanted in
    record {
      goes : Goes (run l.initial.calc) (run l.calc);
      value : (e : Reading) → IsTrue ((run l.calc).is_open e)
          → visited_all (boxes_at at w.floats.now e) w.side (at w.width.now e) (band_at at w.cb.now e) (boxes_at at (drop l.f-index w.floats.now) e) (bracket_at at l.closer e)
          ≡ visited_all (boxes_at at w.floats.now e) w.side (at w.width.now e) (band_at at w.cb.now e) (boxes_at at w.floats.now e) (bracket_at at l.bracket e);
      cause : Blames (run l.fn.calc) (run l.calc) (FitsAnywhere (run l.fn.calc) at w.floats.now w.side w.cb.now w.width.now);
    }
