use Rattle.layout_laws.proofs.Upward.{shift-by-parent}
use Rattle.layout_laws.proofs.recursions.raises_add_up.Goals as goal

pub returns : goal.returns
returns args c at e page = shift-by-parent c at e page
