use Rattle.viz_survey_run.proofs.HeadlineLemmas.{run_renews, run_violates}
use Rattle.viz_survey_run.proofs.surveys.survey.Goals as goal

pub returns-clause-renewed : goal.returns-clause-renewed
returns-clause-renewed g c = run_renews c.parts_hold.ensures.everywhere _ _ _ c.answer.result c.answer.ensures.outcome

pub returns-clause-violated : goal.returns-clause-violated
returns-clause-violated g c = run_violates _ _ _ c.answer.result c.answer.ensures.outcome
