use Rattle.std.proofs.Common.{append_assoc, rules}
use Rattle.viz_replies.proofs.printing.push_quad.Goals as goal

pub returns : goal.returns
returns c = search (rules, append_assoc)
