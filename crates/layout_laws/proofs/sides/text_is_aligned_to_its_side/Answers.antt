use Rattle.layout_semantics.specs.Lines.{align_of}
use Rattle.layout_laws.proofs.EdgeLaws.{centred}
use Rattle.layout_laws.proofs.sides.text_is_aligned_to_its_side.Goals as goal

pub returns-clause-centre_no_less : goal.returns-clause-centre_no_less
returns-clause-centre_no_less c x room held e h = (centred (align_of x.tree x.container) room held e h).0

pub returns-clause-centre_no_more : goal.returns-clause-centre_no_more
returns-clause-centre_no_more c x room held e h = (centred (align_of x.tree x.container) room held e h).1
