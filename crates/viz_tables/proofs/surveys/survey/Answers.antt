use Rattle.viz_tables.proofs.SurveyLemmas.{have_range, some_job, surveyed_lines}
use Rattle.viz_tables.proofs.surveys.survey.Goals as goal

pub surveyed-requires-clause-some : goal.surveyed-requires-clause-some
surveyed-requires-clause-some c =
    let laws = c.parts_tell.ensures in
    some_job laws.tell laws.ranges_with c.args.assertion.now c.args.bytes.now c.in_ok-jobs.jobs c.in_ok-jobs.ensures

pub surveyed-requires-clause-ranges : goal.surveyed-requires-clause-ranges
surveyed-requires-clause-ranges c =
    have_range c.parts_tell.ensures.ranges_with c.args.assertion.now c.args.bytes.now c.in_ok-jobs.jobs c.in_ok-jobs.ensures

pub returns : goal.returns
returns c =
    let laws = c.parts_tell.ensures in
    surveyed_lines laws.tell laws.ranges_with c.args.assertion.now c.args.bytes.now c.in_ok-jobs.jobs c.in_ok-jobs.ensures c.args.turns c.in_ok-lines.lines c.in_ok-lines.ensures
