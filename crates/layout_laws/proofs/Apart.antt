use Rattle.std.proofs.Common.{◌≡◌, ℤ, ◌+ℤ◌, ◌≤ℤ◌, Bool, true, false, int_le, List, Contains, refl, inl, inr, arith}
use Rattle.std.proofs.lemmas.Int.{ints}
use Rattle.viz_base.specs.declared.layouts.Band.{Band}
use Rattle.viz_base.specs.declared.layouts.Extent.{Extent}
use Rattle.viz_base.specs.declared.layouts.Spot.{Spot}
use Rattle.viz_base.specs.declared.styles.Side.{Side}
use Rattle.viz_base.specs.declared.styles.Side.TheVariants as of_side
use Rattle.layout_semantics.specs.Floats.{FloatBox, is_left}
use Rattle.layout_laws.specs.Clearance.{IsApart}
use Rattle.layout_laws.specs.FloatRules.{IsNextTo, ObeysRules}

-- a place that obeys the rules is apart from each earlier float
pub apart : (floats : List FloatBox) (size : Extent ℤ) (cb : Band ℤ) (top : ℤ) (at : Spot ℤ) (side : Side) → ObeysRules floats side size.width cb top at → (f : FloatBox) → Contains floats f → IsApart size at f.box
apart floats size cb top at side h f i = by (int_le f.box.bottom at.y) refl (is_left f) refl
  where
    from : (s : Side) → ObeysRules floats s size.width cb top at → f.box.top ≤ℤ at.y
    from of_side.Left o = o.low_enough.below_floats f i
    from of_side.Right o = o.low_enough.below_floats f i

    right_of : (s : Side) → ObeysRules floats s size.width cb top at → is_left f ≡ true → IsNextTo at.y f → f.box.right ≤ℤ at.x
    right_of of_side.Left o l n = o.right_of_left_ones f i l n
    right_of of_side.Right o l n = o.right_of_left_ones f i l n

    left_of : (s : Side) → ObeysRules floats s size.width cb top at → is_left f ≡ false → IsNextTo at.y f → (at.x +ℤ size.width) ≤ℤ f.box.left
    left_of of_side.Left o l n = o.left_of_right_ones f i l n
    left_of of_side.Right o l n = o.left_of_right_ones f i l n

    next : int_le f.box.bottom at.y ≡ false → IsNextTo at.y f
    next e = record { from = from side h; to = grind (arith, ints) }

    by : (b : Bool) → int_le f.box.bottom at.y ≡ b → (l : Bool) → is_left f ≡ l → IsApart size at f.box
    by true e l s = inl (grind (arith, ints))
    by false e true s = inr (inl (right_of side h s (next e)))
    by false e false s = inr (inr (left_of side h s (next e)))
