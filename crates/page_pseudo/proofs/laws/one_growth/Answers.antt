use Rattle.page_pseudo.proofs.OneGrowth.{one_growth}
use Rattle.page_pseudo.proofs.laws.one_growth.Goals as goal

pub returns : goal.returns
returns c = one_growth
