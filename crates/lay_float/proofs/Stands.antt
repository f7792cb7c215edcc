-- What stands at a top, from the shelf there.
use Rattle.std.proofs.Common.{◌≡◌, ℤ, true, false, cond, List, Some, None, ap, ◌∙◌}
use Rattle.viz_base.specs.declared.layouts.Band.{Band}
use Rattle.viz_base.specs.declared.styles.Side.{Side}
use Rattle.layout_semantics.specs.Floats.{FloatBox}
use Rattle.lay_float.specs.steps.Shelves.{Shelf, shelf_on, is_free, stand}

pub stands : (fs : List FloatBox) (side : Side) (width : ℤ) (cb : Band ℤ) (y : ℤ) (s : Shelf) → s ≡ shelf_on fs side cb y → true ≡ is_free side width cb s → Some s.edge ≡ stand fs side width cb y
stands fs side width cb y s is free = ap (λ b. cond b (Some s.edge) None) free ∙ ap (λ (s : Shelf). cond (is_free side width cb s) (Some s.edge) None) is

pub stands_not : (fs : List FloatBox) (side : Side) (width : ℤ) (cb : Band ℤ) (y : ℤ) (s : Shelf) → s ≡ shelf_on fs side cb y → false ≡ is_free side width cb s → None ≡ stand fs side width cb y
stands_not fs side width cb y s is free = ap (λ b. cond b (Some s.edge) None) free ∙ ap (λ (s : Shelf). cond (is_free side width cb s) (Some s.edge) None) is
