use Rattle.std.proofs.Common.{refl}
use Rattle.viz_renew.proofs.kept.kept.Goals as goal

pub returns : goal.returns
returns c = record { sums = c.in_ok-sums.sums; add = c.in_ok-sums.ensures; answer_is = refl; line = c.in_ok-line.ensures }
