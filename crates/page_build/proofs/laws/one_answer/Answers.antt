use Rattle.page_build.proofs.OneJob.{one_job, one_jobs}
use Rattle.page_build.proofs.OnePage.{Laws}
use Rattle.page_build.proofs.laws.one_answer.Goals as goal

pub returns : goal.returns
returns c =
    let laws : Laws = record { cascade = c.one_cascade.ensures; pseudo = c.one_pseudo_cascade.ensures; growth = c.one_growth.ensures; formula = c.one_answer.ensures.answer } in
    record { jobs = one_jobs laws; job = one_job laws }
