use Rattle.std.proofs.Common.{sym}
use Rattle.lay_line.proofs.Cuts.{pieces-are}
use Rattle.lay_line.proofs.laws.pieces_of_one_pass_are_the_pieces.Goals as goal

pub returns : goal.returns
returns args items = sym (pieces-are items)
