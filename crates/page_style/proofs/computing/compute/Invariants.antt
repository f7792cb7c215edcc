use Rattle.page_style.proofs.Reaching.{Reached}
use Rattle.page_style.proofs.computing.compute.Given as goal

abbrev pub invariant-loop-at : goal.invariant-loop-at
invariant-loop-at l = Reached l.page.nodes l.cascaded.winners l.fonts l.page.ok l.at l.styles l.drawn.items
