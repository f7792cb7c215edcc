use Rattle.cert_semantics.proofs.Sides.{rectangle_is_units}
use Rattle.cert_semantics.proofs.shapes.a_rectangle_is_cut_by_unit_splits.Goals as goal

pub returns : goal.returns
returns c = rectangle_is_units
