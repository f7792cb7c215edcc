use Rattle.layout_laws.proofs.ContextHeights.{reaches_down}
use Rattle.layout_laws.proofs.heights.a_context_reaches_to_its_floats.Goals as goal

pub returns : goal.returns
returns c = reaches_down
