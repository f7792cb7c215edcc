use Rattle.layout_semantics.specs.Floats.{float_at}
use Rattle.layout_laws.proofs.FloatPlaces.{highest_obeys}
use Rattle.layout_laws.proofs.Apart.{apart}
use Rattle.layout_laws.proofs.floats.a_float_overlaps_no_earlier_one.Goals as goal

pub returns : goal.returns
returns c floats side size cb top f i = apart floats size cb top (float_at floats side size cb top) side (highest_obeys floats size.width cb top side) f i
