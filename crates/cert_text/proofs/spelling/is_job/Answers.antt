use Rattle.cert_text.proofs.spelling.is_job.Goals as goal

pub returns-then-job-eq32 : goal.returns-then-job-eq32
returns-then-job-eq32 c = rw c.if-job-eq32.true c.are_bytes.ensures
