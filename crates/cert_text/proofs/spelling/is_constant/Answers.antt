use Rattle.std.proofs.Common.{sym, FitsSigned}
use Rattle.std.specs.Int.{w128}
use Rattle.lin_proof.proofs.Opposites.{in_i128-fit}
use Rattle.cert_text.proofs.spelling.is_constant.Goals as goal

pub returns : goal.returns
returns c = let fits : FitsSigned w128 c.args.k = c.ranges.k in sym (in_i128-fit c.args.k fits)
