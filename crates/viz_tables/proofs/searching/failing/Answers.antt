use Rattle.viz_tables.proofs.Stretches.{fails_stretch}
use Rattle.viz_tables.proofs.searching.failing.Goals as goal

pub returns : goal.returns
returns c =
    let found = c.in_ok-last.ensures in
    fails_stretch c.args.job.now c.args.turns c.in_ok-last.last c.args.world c.requires.inside found.bounds.0 found.bounds.1 found.untrue
