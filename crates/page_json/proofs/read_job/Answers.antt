use Rattle.std.proofs.Common.{refl, subst}
use Rattle.serde_json.specs.View.{view}
use Rattle.viz_base.specs.Answers.{Gives}
use Rattle.page_json.specs.Faults.{refusal_of}
use Rattle.page_json.specs.Jobs.{job_in, job_under, judged, raw_of, value_of}
use Rattle.page_json.proofs.ByteLemmas.{judged_as}
use Rattle.page_json.proofs.read_job.Goals as goal

pub returns-clause-gives : goal.returns-clause-gives
returns-clause-gives c =
    let d = view c.in_ok-value.value in
    judged_as c.job_under.result judged job_in (value_of c.args.bytes.now) d c.in_ok-value.ensures (λ one. refl)
    (subst (λ text. Gives raw_of refusal_of c.job_under.result (job_under text d)) c.text_at.ensures c.job_under.ensures.gives)
