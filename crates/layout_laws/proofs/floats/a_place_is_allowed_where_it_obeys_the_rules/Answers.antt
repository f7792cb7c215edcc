use Rattle.layout_laws.proofs.FloatPlaces.{to_rules, of_rules}
use Rattle.layout_laws.proofs.floats.a_place_is_allowed_where_it_obeys_the_rules.Goals as goal

pub returns : goal.returns
returns c floats side width cb top at = (to_rules floats width cb top at side, of_rules floats width cb top at side)
