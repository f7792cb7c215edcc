use Rattle.page_limits.proofs.FloatSpots.{with-float}
use Rattle.page_limits.proofs.floats.a_float_stays_within_reach.Goals as goal

pub returns : goal.returns
returns c b own f floats least y a l i e = with-float b own f floats least y a l i e
