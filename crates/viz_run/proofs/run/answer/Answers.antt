use Rattle.viz_run.proofs.HeadlineLemmas.{cert_word, job_word, names_no_file}
use Rattle.viz_run.proofs.run.answer.Goals as goal

pub returns-in-Some-clause-sure_job : goal.returns-in-Some-clause-sure_job
returns-in-Some-clause-sure_job g c sure =
    c.obey.ensures.sure_job (job_word (g.F.Shelf.sure c.args.shelf.now) _ c.in-Some.command c.in-Some.ensures sure)

pub returns-in-Some-clause-sure_cert : goal.returns-in-Some-clause-sure_cert
returns-in-Some-clause-sure_cert g c sure =
    c.obey.ensures.sure_cert (cert_word (g.F.Shelf.sure c.args.shelf.now) _ c.in-Some.command c.in-Some.ensures sure)

pub returns-in-Some-clause-unloaded : goal.returns-in-Some-clause-unloaded
returns-in-Some-clause-unloaded g c verb = c.obey.ensures.unloaded (names_no_file _ c.in-Some.command c.in-Some.ensures verb)

pub returns-in-Some-clause-unlooked : goal.returns-in-Some-clause-unlooked
returns-in-Some-clause-unlooked g c sure =
    c.obey.ensures.unlooked (job_word (g.F.Shelf.sure c.args.shelf.now) _ c.in-Some.command c.in-Some.ensures sure)
