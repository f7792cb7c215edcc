use Rattle.std.proofs.Common.{◌≡◌, drop, IsTrue}
use Rattle.std.specs.Prelude.{⊤}
use Rattle.viz_calc.specs.World.{Reading}
use Rattle.viz_calc.specs.Run.{Goes, Blames}
use Rattle.layout_semantics.specs.Floats.{highest_top}
use Rattle.lay_float.specs.Readings.{boxes_at}
use Rattle.lay_float.proofs.engine.highest_top.Given as goal

-- the highest top so far, with those that are left, is that of all
abbrev pub invariant-loop-f : goal.invariant-loop-f
invariant-loop-f g l =
    let at = g.S.Steady.at in
    let run = g.S.Steady.run in
    record {
      goes : Goes (run l.initial.calc) (run l.calc);
      value : (e : Reading) → IsTrue ((run l.calc).is_open e)
          → highest_top (boxes_at at (drop l.f-index l.floats) e) (at l.best e) ≡ highest_top (boxes_at at l.floats e) (at l.top e);
      cause : Blames (run l.fn.calc) (run l.calc) ⊤;
    }
