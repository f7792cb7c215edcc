use Rattle.vis_read.proofs.Names.{unbound_first}
use Rattle.vis_read.proofs.steps.step_first.Goals as goal

pub returns-in-None : goal.returns-in-None
returns-in-None c = unbound_first c.args.reading.now c.args.pair c.in-Name.name c.as_str.result.now c.args.lexeme.now c.in-Name.is c.as_str.ensures c.in-None.ensures
