use Rattle.layout_laws.proofs.TextTotals.{letters_within}
use Rattle.layout_laws.proofs.boxes.boxes_have_no_more_characters_than_the_page.Goals as goal

pub returns : goal.returns
returns c = letters_within c.args.page.now.nodes c.args.styles.now c.args.page.now.ok
