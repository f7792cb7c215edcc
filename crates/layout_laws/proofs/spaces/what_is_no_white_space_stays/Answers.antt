use Rattle.layout_laws.proofs.Collapsing.{others_stay}
use Rattle.layout_laws.proofs.spaces.what_is_no_white_space_stays.Goals as goal

pub returns : goal.returns
returns c = others_stay
