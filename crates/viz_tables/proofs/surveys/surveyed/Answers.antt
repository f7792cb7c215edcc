use Rattle.std.proofs.Common.{◌≡◌, subst}
use Rattle.std.specs.List.{AllByRecursion}
use Rattle.viz_base.specs.declared.jobs.Job.{Job}
use Rattle.viz_tables.proofs.SurveyLemmas.{surveyed_by}
use Rattle.viz_tables.proofs.surveys.surveyed.Goals as goal

pub returns : goal.returns
returns c =
    let range = c.range_of-range.result in
    surveyed_by range c.args.jobs c.args.turns c.lines_of.result (subst (AllByRecursion (λ (job : Job). job.range ≡ range)) c.as_slice.ensures c.range_of-range.ensures.ranges)
    c.lines_of.ensures.lines c.lines_of.ensures.unturned
