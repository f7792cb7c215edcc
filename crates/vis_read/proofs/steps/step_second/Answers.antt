use Rattle.vis_read.proofs.Names.{unbound_second}
use Rattle.vis_read.proofs.steps.step_second.Goals as goal

pub returns-in-None : goal.returns-in-None
returns-in-None c = unbound_second c.args.reading.now c.args.pair c.args.first c.in-Name.name c.as_str.result.now c.args.lexeme.now c.in-Name.is c.as_str.ensures c.in-None.ensures
