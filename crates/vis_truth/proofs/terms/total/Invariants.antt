use Rattle.std.proofs.Common.{◌≡◌, ◌+ℤ◌, pos, ◌∷◌, drop, fold, map, IsTrue}
use Rattle.viz_calc.specs.World.{Reading}
use Rattle.viz_calc.specs.State.{AllSmall}
use Rattle.viz_calc.specs.Run.{Goes, Blames, Fits}
use Rattle.logic_semantics.specs.Terms.{summand_value}
use Rattle.vis_truth.specs.Names.{places_of}
use Rattle.vis_truth.specs.Scenes.{scene_at, sum_parts}
use Rattle.vis_truth.proofs.terms.total.Given as goal

-- the sum so far and what is left make up the whole
abbrev pub invariant-loop-s : goal.invariant-loop-s
invariant-loop-s g l =
    let at = g.S.Steady.at in
    let run = g.S.Steady.run in
    record {
      goes : Goes (run l.initial.calc) (run l.calc);
      sum : (e : Reading) → IsTrue ((run l.calc).is_open e)
          → fold ◌+ℤ◌ (at l.sum e) (map (summand_value (scene_at at l.r e) (places_of l.names)) (drop l.s-index l.parts))
          ≡ fold ◌+ℤ◌ (pos 0) (map (summand_value (scene_at at l.r e) (places_of l.names)) l.parts);
      left : Fits (run l.fn.calc) (λ e. pos 0 ∷ sum_parts (scene_at at l.r e) (places_of l.names) (pos 0) l.parts)
          → (e : Reading) → IsTrue ((run l.calc).is_open e)
          → AllSmall (sum_parts (scene_at at l.r e) (places_of l.names) (at l.sum e) (drop l.s-index l.parts));
      cause : Blames (run l.fn.calc) (run l.calc) (Fits (run l.fn.calc) (λ e. pos 0 ∷ sum_parts (scene_at at l.r e) (places_of l.names) (pos 0) l.parts));
    }
