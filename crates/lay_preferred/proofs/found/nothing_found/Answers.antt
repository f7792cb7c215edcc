use Rattle.lay_preferred.proofs.Founds.{found-none, found-closed}
use Rattle.lay_preferred.proofs.found.nothing_found.Goals as goal

pub returns-in-Ok-clause-found : goal.returns-in-Ok-clause-found
returns-in-Ok-clause-found g c = found-none g.S.Steady.at c.args.tree.now (g.S.Steady.run c.args.calc.now) _ c.in-Ok.widths.items c.in-Ok.ensures

pub returns-in-Err-clause-found : goal.returns-in-Err-clause-found
returns-in-Err-clause-found g c = found-closed g.S.Steady.at c.args.tree.now (g.S.Steady.run c.stop.new.self) _ c.stop.ensures.closed
