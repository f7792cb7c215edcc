use Rattle.vis_read.proofs.Sequence.{quotes}
use Rattle.vis_read.proofs.tokens.lexeme_of.Goals as goal

pub range-requires-clause-start_boundary : goal.range-requires-clause-start_boundary
range-requires-clause-start_boundary c = λ some. (quotes c.requires c.in-Quoted.is c.utf8.piece).first

pub range-requires-clause-end_boundary : goal.range-requires-clause-end_boundary
range-requires-clause-end_boundary c = (quotes c.requires c.in-Quoted.is c.utf8.piece).last
