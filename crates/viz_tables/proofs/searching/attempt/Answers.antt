use Rattle.viz_tables.proofs.Stretches.{holds_stretch}
use Rattle.viz_tables.proofs.searching.attempt.Goals as goal

pub returns-in-True-clause-tried : goal.returns-in-True-clause-tried
returns-in-True-clause-tried c =
    holds_stretch c.args.job.now c.args.turns c.args.w c.args.end c.requires.end c.requires.range c.requires.least (rw c.in-True.is at c.in_ok-found.ensures.found)
