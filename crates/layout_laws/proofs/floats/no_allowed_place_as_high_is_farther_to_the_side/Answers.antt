use Rattle.viz_base.specs.declared.styles.Side.TheVariants as of_side
use Rattle.layout_semantics.specs.Floats.{highest_top, highest_free}
use Rattle.layout_laws.proofs.FloatPlaces.{none_farther}
use Rattle.layout_laws.proofs.floats.no_allowed_place_as_high_is_farther_to_the_side.Goals as goal

pub returns : goal.returns
returns c floats of_side.Left size cb top at h e = none_farther floats size.width cb top (highest_free floats of_side.Left size.width cb top (highest_top floats top)) at e of_side.Left h
returns c floats of_side.Right size cb top at h e = none_farther floats size.width cb top (highest_free floats of_side.Right size.width cb top (highest_top floats top)) at e of_side.Right h
