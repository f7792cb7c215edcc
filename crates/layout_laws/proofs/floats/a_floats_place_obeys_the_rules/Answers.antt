use Rattle.layout_laws.proofs.FloatPlaces.{highest_obeys}
use Rattle.layout_laws.proofs.floats.a_floats_place_obeys_the_rules.Goals as goal

pub returns : goal.returns
returns c floats side size cb top = highest_obeys floats size.width cb top side
