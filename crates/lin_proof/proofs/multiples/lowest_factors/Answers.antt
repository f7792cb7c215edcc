use Rattle.lin_proof.proofs.Divisors.{IsLowest-common}
use Rattle.lin_proof.proofs.multiples.lowest_factors.Goals as goal

pub returns : goal.returns
returns c = IsLowest-common c.args.a c.args.b c.common_divisor-divisor.result c.requires.first c.requires.second c.common_divisor-divisor.ensures
