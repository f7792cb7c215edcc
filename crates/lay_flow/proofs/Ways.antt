-- A way forward is one step of itself.
use Rattle.std.proofs.Common.{◌≡◌, ℕ, ℤ, ◌<◌, List, length}
use Rattle.viz_base.specs.declared.layouts.Band.{Band}
use Rattle.viz_base.specs.declared.layouts.Waiting.{Waiting}
use Rattle.viz_calc.specs.World.{Reading}
use Rattle.lay_float.specs.Readings.{boxes_at, option_at}
use Rattle.lay_margin.specs.Readings.{passed_by}
use Rattle.lay_margin.specs.declared.runs.Run.{Run}
use Rattle.lay_steps.specs.Forward.{box_found}
use Rattle.lay_steps.proofs.Levels.{way-is}
use Rattle.lay_steps.specs.Flow.{size_in}
use Rattle.lay_flow.specs.Readings.{apart_at, base_at}
use Rattle.lay_flow.specs.Ways.{ground_at, way_at, inner_at}
use Rattle.lay_flow.specs.declared.forward.Way.{Way}

pub way-inside : {N : Type 0} (at : N → Reading → ℤ) (x : Way N) (e : Reading) (cb : Band ℤ) (b : ℕ) (run : Run ℤ) (ws : List (Waiting ℤ)) → b < length x.page.now.tree.now.boxes
    → way_at at x e cb b run ws ≡ box_found (ground_at at x e) (passed_by x.past) cb b run ws (inner_at at x e cb b run ws)
unfolding way_at
way-inside at x e cb b run ws l =
    way-is x.page.now.tree.now e.world (size_in (apart_at at x.page.now.apart.now e)) (base_at at x.base.now e) (boxes_at at x.floats.now e) (option_at at x.least.now e) (passed_by x.past) b cb run ws l
