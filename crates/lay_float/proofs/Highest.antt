-- The place of a float is the highest of all that obey the rules.
use Rattle.std.proofs.Common.{ℤ, List}
use Rattle.viz_base.specs.declared.layouts.Band.{Band}
use Rattle.viz_base.specs.declared.layouts.Extent.{Extent}
use Rattle.viz_base.specs.declared.styles.Side.{Side}
use Rattle.viz_base.specs.declared.styles.Side.TheVariants as of_side
use Rattle.layout_semantics.specs.Floats.{FloatBox, float_at, highest_top, highest_free}
use Rattle.layout_laws.proofs.FloatPlaces.{highest_obeys, none_higher, none_farther}
use Rattle.lay_float.specs.Places.{IsHighest}

pub highest_is : (floats : List FloatBox) (side : Side) (size : Extent ℤ) (cb : Band ℤ) (top : ℤ) → IsHighest floats side size.width cb top (float_at floats side size cb top)
highest_is floats of_side.Left size cb top = record {
  obeys = highest_obeys floats size.width cb top of_side.Left;
  none_higher = λ other h. none_higher floats size.width cb top of_side.Left other h;
  none_farther = λ other h e. none_farther floats size.width cb top (highest_free floats of_side.Left size.width cb top (highest_top floats top)) other e of_side.Left h;
}
highest_is floats of_side.Right size cb top = record {
  obeys = highest_obeys floats size.width cb top of_side.Right;
  none_higher = λ other h. none_higher floats size.width cb top of_side.Right other h;
  none_farther = λ other h e. none_farther floats size.width cb top (highest_free floats of_side.Right size.width cb top (highest_top floats top)) other e of_side.Right h;
}
