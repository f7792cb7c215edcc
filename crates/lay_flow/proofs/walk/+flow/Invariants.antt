use Rattle.std.proofs.Common.{◌≡◌, ◌-◌, ◌+◌, ◌*◌, ◌++◌, length, drop, IsTrue}
use Rattle.viz_calc.specs.World.{Reading}
use Rattle.viz_calc.specs.Run.{Goes, BlamesButMem}
use Rattle.viz_calc.specs.Renderings.{band_at}
use Rattle.lay_frame.specs.Readings.{boxes_at}
use Rattle.lay_float.specs.Agreement.{Agree}
use Rattle.lay_flow.specs.Readings.{apart_at, context_at}
use Rattle.lay_steps.specs.Flow.{children_of}
use Rattle.lay_flow.specs.WalkFits.{AllFit, WalkFits, before_children}
use Rattle.lay_flow.proofs.walk.+flow.Given as goal

abbrev pub decreases-child : goal.decreases-child
decreases-child g l = 8 * (length l.page.now.tree.now.boxes - l.k) + 6

abbrev pub decreases-flow : goal.decreases-flow
decreases-flow g l = 8 * (length l.page.now.tree.now.boxes - l.b) + 5

abbrev pub decreases-lay : goal.decreases-lay
decreases-lay g l = 8 * (length l.page.now.tree.now.boxes - l.b) + 4

abbrev pub decreases-lay_block : goal.decreases-lay_block
decreases-lay_block g l = 8 * (length l.page.now.tree.now.boxes - l.b) + 3

abbrev pub decreases-lay_context : goal.decreases-lay_context
decreases-lay_context g l = 8 * (length l.page.now.tree.now.boxes - l.b) + 3

abbrev pub decreases-content : goal.decreases-content
decreases-content g l = 8 * (length l.page.now.tree.now.boxes - l.b) + 2

abbrev pub decreases-children : goal.decreases-children
decreases-children g l = 8 * (length l.page.now.tree.now.boxes - l.b) + 1

-- what came of the children so far and of those that are left is what comes of all
abbrev pub invariant-children-loop-k : goal.invariant-children-loop-k
invariant-children-loop-k g l =
    let at = g.S.Steady.at in
    let run = g.S.Steady.run in
    record {
      goes : Goes (run l.fn.calc) (run l.calc);
      agrees : Agree at (run l.calc).is_open l.context.floats;
      context : (e : Reading) → IsTrue ((run l.calc).is_open e)
          → (children_of l.page.tree.now e.world (apart_at at l.page.apart.now e) (band_at at l.cb e) (at l.top e) (context_at at l.context e) (drop l.k-index l.boxes)).context
          ≡ (children_of l.page.tree.now e.world (apart_at at l.page.apart.now e) (band_at at l.cb e) (at l.top e) (context_at at l.fn.context e) l.boxes).context;
      boxes : (e : Reading) → IsTrue ((run l.calc).is_open e)
          → boxes_at at l.out.items e
          ++ (children_of l.page.tree.now e.world (apart_at at l.page.apart.now e) (band_at at l.cb e) (at l.top e) (context_at at l.context e) (drop l.k-index l.boxes)).boxes
          ≡ boxes_at at l.fn.out.items e
          ++ (children_of l.page.tree.now e.world (apart_at at l.page.apart.now e) (band_at at l.cb e) (at l.top e) (context_at at l.fn.context e) l.boxes).boxes;
      left : ((e : Reading) → IsTrue ((run l.fn.calc).is_open e) → WalkFits l.page.tree.now e.world (apart_at at l.page.apart.now e) (before_children (band_at at l.cb e) (at l.top e) (context_at at l.fn.context e) l.boxes))
          → (e : Reading) → IsTrue ((run l.calc).is_open e) → WalkFits l.page.tree.now e.world (apart_at at l.page.apart.now e) (before_children (band_at at l.cb e) (at l.top e) (context_at at l.context e) (drop l.k-index l.boxes));
      cause : BlamesButMem (run l.fn.calc) (run l.calc) (AllFit l.page.tree.now (run l.fn.calc).is_open
          (λ (e : Reading). WalkFits l.page.tree.now e.world (apart_at at l.page.apart.now e) (before_children (band_at at l.cb e) (at l.top e) (context_at at l.fn.context e) l.boxes)));
    }
