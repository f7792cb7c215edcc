use Rattle.page_media.proofs.MetRules.{chosen-met}
use Rattle.page_media.proofs.laws.chosen_are_met.Goals as goal

pub returns : goal.returns
returns c = chosen-met
