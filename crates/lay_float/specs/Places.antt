-- The highest place of a float (CSS 2.1, 9.5.1), in terms of all places.
use Rattle.std.specs.Prelude.{◌≡◌, ℤ, ◌≤ℤ◌, List}
use Rattle.viz_base.specs.declared.layouts.Band.{Band}
use Rattle.viz_base.specs.declared.layouts.Spot.{Spot}
use Rattle.viz_base.specs.declared.styles.Side.{Side}
use Rattle.layout_semantics.specs.Floats.{FloatBox}
use Rattle.layout_laws.specs.FloatRules.{ObeysRules, IsNoFarther}

-- a place that obeys rules 1 to 7, and than which none that does is higher, nor as high and farther to the side
pub record IsHighest (floats : List FloatBox) (side : Side) (width : ℤ) (cb : Band ℤ) (top : ℤ) (spot : Spot ℤ)
    : Type 0 where
  pub obeys : ObeysRules floats side width cb top spot
  pub none_higher : (other : Spot ℤ) → ObeysRules floats side width cb top other → spot.y ≤ℤ other.y
  pub none_farther : (other : Spot ℤ) → ObeysRules floats side width cb top other → other.y ≡ spot.y
      → IsNoFarther side other spot
