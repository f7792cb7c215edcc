use Rattle.layout_laws.proofs.LowestBottoms.{lowest}
use Rattle.layout_laws.proofs.clearance.clear_looks_at_the_lowest_bottom.Goals as goal

pub returns : goal.returns
returns c = lowest
