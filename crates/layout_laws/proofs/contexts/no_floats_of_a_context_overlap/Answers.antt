use Rattle.layout_semantics.specs.Flow.{fresh, flow_to}
use Rattle.layout_laws.proofs.PlacedFloats.{are_clear}
use Rattle.layout_laws.proofs.FlowFloats.{of_flow}
use Rattle.layout_laws.proofs.contexts.no_floats_of_a_context_overlap.Goals as goal

pub returns : goal.returns
returns c tree w levels b cb top = are_clear (flow_to tree w levels b cb top (fresh top)).floats (of_flow tree w levels b cb top (fresh top))
