use Rattle.std.specs.Prelude.{◌≡◌, ℤ, ◌+ℤ◌, ◌≤ℤ◌, ◌⊎◌, List, IsTrue, Contains}
use Rattle.viz_base.specs.declared.layouts.Extent.{Extent}
use Rattle.viz_base.specs.declared.layouts.Spot.{Spot}
use Rattle.viz_base.specs.declared.renderings.Quad.{Quad}
use Rattle.viz_base.specs.declared.styles.Clear.{Clear}
use Rattle.layout_semantics.specs.Floats.{FloatBox, is_relevant}

-- a box of this size at this place lies below another, to the right of it, or to the left of it
abbrev pub IsApart : Extent ℤ → Spot ℤ → Quad ℤ → Type 0
IsApart size at other = (other.bottom ≤ℤ at.y) ⊎ ((other.right ≤ℤ at.x) ⊎ ((at.x +ℤ size.width) ≤ℤ other.left))

-- the lowest outer bottom of the floats that `clear` names (CSS 2.1,
-- 9.5.2): none of them ends below it, and one ends there
pub record IsLowestBottom (clear : Clear) (floats : List FloatBox) (y : ℤ) : Type 0 where
  pub bound : (f : FloatBox) → Contains floats f → IsTrue (is_relevant clear f) → f.box.bottom ≤ℤ y
  pub reached : (f : FloatBox) × Contains floats f × IsTrue (is_relevant clear f) × (f.box.bottom ≡ y)
