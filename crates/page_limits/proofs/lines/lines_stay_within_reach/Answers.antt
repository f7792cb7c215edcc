use Rattle.page_limits.proofs.LinesWithin.{lines-within}
use Rattle.page_limits.proofs.lines.lines_stay_within_reach.Goals as goal

pub returns : goal.returns
returns c context own rise s b y least floats small band levels f = lines-within context own rise s small b y least floats band levels f
