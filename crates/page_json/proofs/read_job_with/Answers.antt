use Rattle.std.proofs.Common.{Some, refl}
use Rattle.serde_json.specs.View.{view}
use Rattle.page_json.specs.Jobs.{job_under, judged_with, value_of}
use Rattle.page_json.proofs.ByteLemmas.{judged_as}
use Rattle.page_json.proofs.read_job_with.Goals as goal

pub returns-clause-gives : goal.returns-clause-gives
returns-clause-gives c =
    judged_as c.job_under.result (judged_with c.args.assertion.now) (job_under (Some c.args.assertion.now)) (value_of c.args.bytes.now) (view c.in_ok-value.value)
    c.in_ok-value.ensures (λ one. refl) c.job_under.ensures.gives
