use Rattle.layout_laws.proofs.FlowFloats.{of_flow}
use Rattle.layout_laws.proofs.contexts.floats_of_a_container_are_placed_by_the_rules.Goals as goal

pub returns : goal.returns
returns c = of_flow
