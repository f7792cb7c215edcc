use Rattle.viz_calc.proofs.PlainLemmas.{kept_open}
use Rattle.viz_calc.proofs.plain.plain_keeps_its_world.Goals as goal

pub returns-clause-open : goal.returns-clause-open
returns-clause-open c = kept_open c.args.calc.now.world
