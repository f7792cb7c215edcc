use Rattle.viz_run.proofs.HeadlineLemmas.{run_accepts, run_fails, run_proves, run_tries, run_violates}
use Rattle.viz_run.proofs.run.run.Goals as goal

pub returns-clause-accepted : goal.returns-clause-accepted
returns-clause-accepted g c = run_accepts c.parts_hold.ensures.everywhere _ _ _ c.answer.result c.answer.ensures.outcome

pub returns-clause-proved : goal.returns-clause-proved
returns-clause-proved g c = run_proves c.parts_hold.ensures.everywhere _ _ _ c.answer.result c.answer.ensures.outcome

pub returns-clause-violated : goal.returns-clause-violated
returns-clause-violated g c = run_violates _ _ _ c.answer.result c.answer.ensures.outcome

pub returns-clause-trial_proved : goal.returns-clause-trial_proved
returns-clause-trial_proved g c = run_tries c.parts_hold.ensures.everywhere _ _ _ c.answer.result c.answer.ensures.outcome

pub returns-clause-trial_violated : goal.returns-clause-trial_violated
returns-clause-trial_violated g c = run_fails c.parts_hold.ensures.there c.parts_hold.ensures.one _ _ _ c.answer.result c.answer.ensures.outcome
