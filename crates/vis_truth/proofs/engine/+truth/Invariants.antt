use Rattle.std.proofs.Common.{◌≡◌, IsTrue, false, take, length}
use Rattle.std.specs.List.{list_any, range_with_len}
use Rattle.viz_calc.specs.World.{Reading}
use Rattle.viz_calc.specs.Run.{Goes, Blames}
use Rattle.vis_truth.specs.Names.{places_of}
use Rattle.vis_truth.specs.Scenes.{scene_at, is_witness, IsTame}
use Rattle.vis_truth.proofs.engine.+truth.Given as goal

-- no box so far is a witness
abbrev pub invariant-has_witness-loop-place : goal.invariant-has_witness-loop-place
invariant-has_witness-loop-place g l =
    let at = g.S.Steady.at in
    let run = g.S.Steady.run in
    record {
      goes : Goes (run l.fn.calc) (run l.calc);
      none : (e : Reading) → IsTrue ((run l.calc).is_open e)
          → list_any (is_witness (scene_at at l.r e) l.set l.body l.wanted (places_of l.names)) (take l.place (range_with_len 0 (length l.r.boxes))) ≡ false;
      cause : Blames (run l.fn.calc) (run l.calc) (IsTame (run l.fn.calc).is_open at l.r l.body);
    }
