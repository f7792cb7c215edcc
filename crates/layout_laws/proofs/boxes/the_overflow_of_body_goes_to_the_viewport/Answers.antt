use Rattle.layout_laws.proofs.Viewport.{body-does-not}
use Rattle.layout_laws.proofs.boxes.the_overflow_of_body_goes_to_the_viewport.Goals as goal

pub returns : goal.returns
returns c = body-does-not c.args.page.now.nodes c.args.styles.now c.args.at c.requires.html c.requires.visible c.requires.first
