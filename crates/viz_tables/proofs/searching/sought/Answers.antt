use Rattle.std.proofs.Common.{sym, subst}
use Rattle.viz_tables.specs.Searches.{IsSought, part_of}
use Rattle.viz_tables.proofs.Stretches.{sought_of}
use Rattle.viz_tables.proofs.searching.sought.Goals as goal

pub returns-clause-found : goal.returns-clause-found
returns-clause-found c =
    let job = c.args.job.now in
    let part = part_of job.range c.args.wl c.args.wh in
    subst (IsSought job part c.args.turns) (sym c.found_of.ensures) (sought_of job part c.args.turns c.in_ok-outcome.outcome c.in_ok-outcome.ensures.found)
