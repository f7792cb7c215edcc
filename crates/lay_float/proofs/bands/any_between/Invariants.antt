use Rattle.std.proofs.Common.{◌≡◌, drop, IsTrue}
use Rattle.std.specs.Prelude.{⊤}
use Rattle.std.specs.List.{list_any}
use Rattle.viz_calc.specs.World.{Reading}
use Rattle.viz_calc.specs.Run.{Goes, Blames}
use Rattle.lay_float.specs.Readings.{boxes_at}
use Rattle.lay_float.specs.steps.Bands.{meets_between}
use Rattle.lay_float.proofs.bands.any_between.Given as goal

-- no float so far meets the span
abbrev pub invariant-loop-f : goal.invariant-loop-f
invariant-loop-f g l =
    let at = g.S.Steady.at in
    let run = g.S.Steady.run in
    record {
      goes : Goes (run l.initial.calc) (run l.calc);
      value : (e : Reading) → IsTrue ((run l.calc).is_open e)
          → list_any (meets_between (at l.y e) (at l.end e)) (boxes_at at (drop l.f-index l.floats) e)
          ≡ list_any (meets_between (at l.y e) (at l.end e)) (boxes_at at l.floats e);
      cause : Blames (run l.fn.calc) (run l.calc) ⊤;
    }
