use Rattle.layout_laws.proofs.OwnBoxes.{block-law}
use Rattle.layout_laws.proofs.sorts_of_boxes.a_block_starts_a_context_where_it_clips.Goals as goal

pub returns : goal.returns
returns c = block-law c.args.page.now.nodes c.args.styles.now c.args.page.now.ok
