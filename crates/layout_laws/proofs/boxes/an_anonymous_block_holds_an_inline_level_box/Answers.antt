use Rattle.layout_laws.proofs.Separated.{holds_inline_level}
use Rattle.layout_laws.proofs.boxes.an_anonymous_block_holds_an_inline_level_box.Goals as goal

pub returns : goal.returns
returns c = holds_inline_level c.args.page.now.nodes c.args.styles.now c.args.page.now.ok c.args.at
