use Rattle.viz_base.specs.declared.styles.Side.TheVariants as of_side
use Rattle.layout_laws.proofs.FloatPlaces.{none_higher}
use Rattle.layout_laws.proofs.floats.no_allowed_place_is_higher.Goals as goal

pub returns : goal.returns
returns c floats of_side.Left size cb top at h = none_higher floats size.width cb top of_side.Left at h
returns c floats of_side.Right size cb top at h = none_higher floats size.width cb top of_side.Right at h
