use Rattle.layout_laws.proofs.HorizontalTerms.{block-sum}
use Rattle.layout_laws.proofs.widths.the_terms_of_a_block_add_up.Goals as goal

pub returns : goal.returns
returns c cb is = block-sum c.args.tree.now c.args.world c.args.at cb is
