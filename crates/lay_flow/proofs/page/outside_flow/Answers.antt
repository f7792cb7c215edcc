use Rattle.lay_preferred.proofs.Founds.{found-closed}
use Rattle.lay_flow.proofs.page.outside_flow.Goals as goal

pub returns-in-None-clause-found : goal.returns-in-None-clause-found
returns-in-None-clause-found g c = found-closed g.S.Steady.at c.args.tree.now (g.S.Steady.run c.stop.new.self) _ c.stop.ensures.closed

pub returns-in-None-clause-value : goal.returns-in-None-clause-value
returns-in-None-clause-value g c = λ e o. let closed = c.stop.ensures.closed e in absurd (cc)
