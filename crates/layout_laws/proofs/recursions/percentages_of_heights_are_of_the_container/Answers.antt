use Rattle.layout_laws.proofs.Upward.{container-by-parent}
use Rattle.layout_laws.proofs.recursions.percentages_of_heights_are_of_the_container.Goals as goal

pub returns : goal.returns
returns c = container-by-parent c.args.tree.now c.args.at c.requires.on_page
