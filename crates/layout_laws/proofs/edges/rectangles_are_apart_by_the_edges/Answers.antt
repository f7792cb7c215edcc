use Rattle.layout_laws.proofs.EdgeLaws.{edges_of}
use Rattle.layout_laws.proofs.edges.rectangles_are_apart_by_the_edges.Goals as goal

pub returns : goal.returns
returns c = edges_of
