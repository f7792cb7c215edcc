use Rattle.std.proofs.lemmas.Result.{IfOk-weaker}
use Rattle.viz_replies.specs.Generated.{job_text}
use Rattle.viz_replies.proofs.HeadlineLemmas.{trial_proves, trial_violates}
use Rattle.viz_replies.proofs.trials.reply_to_trial.Goals as goal

pub returns-clause-proved : goal.returns-clause-proved
returns-clause-proved c = IfOk-weaker c.reply_of_trial.result _ _
    (λ r h is. trial_proves c.parts_hold.ensures.everywhere (job_text c.args.seed c.args.sections.count) c.args.turns r.answer r.output.items h is) c.reply_of_trial.ensures

pub returns-clause-violated : goal.returns-clause-violated
returns-clause-violated c = IfOk-weaker c.reply_of_trial.result _ _
    (λ r h is. trial_violates c.parts_hold.ensures.there c.parts_hold.ensures.one (job_text c.args.seed c.args.sections.count) c.args.turns r.answer r.output.items h is) c.reply_of_trial.ensures
