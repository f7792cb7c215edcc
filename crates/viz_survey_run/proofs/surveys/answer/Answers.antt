use Rattle.viz_survey_run.proofs.WordLemmas.{job_word, other_word}
use Rattle.viz_survey_run.proofs.surveys.answer.Goals as goal

pub returns-in-Some-clause-sure : goal.returns-in-Some-clause-sure
returns-in-Some-clause-sure g c job other =
    let sure = g.F.Shelf.sure c.args.shelf.now in
    c.obey.ensures.sure (job_word sure _ c.in-Some.command c.in-Some.ensures job) (other_word sure _ c.in-Some.command c.in-Some.ensures other)
