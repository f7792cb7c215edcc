use Rattle.std.proofs.Common.{ℤ}
use Rattle.viz_base.specs.declared.formulas.Formula.{Formula}
use Rattle.viz_base.specs.declared.renderings.Rendering.{Rendering}
use Rattle.viz_calc.specs.World.{Reading}
use Rattle.viz_calc.specs.Run.{Run, Goes}
use Rattle.vis_truth.specs.Scenes.{IsTame}

-- what is tame stays so
pub IsTame-later : {N : Type 0} (a b : Run) (at : N → Reading → ℤ) (r : Rendering N) (f : Formula) → Goes a b → IsTame a.is_open at r f → IsTame b.is_open at r f
IsTame-later a b at r f g t = record { bounded = λ e o. t.bounded e (g.closes e o); small = t.small }
