use Rattle.layout_laws.proofs.Viewport.{others-do}
use Rattle.layout_laws.proofs.boxes.the_overflow_of_html_goes_before_that_of_body.Goals as goal

pub returns : goal.returns
returns c = others-do c.args.page.now.nodes c.args.styles.now c.args.at c.requires.element c.requires.clips
