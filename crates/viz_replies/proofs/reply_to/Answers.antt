use Rattle.std.proofs.lemmas.Result.{IfOk-weaker}
use Rattle.viz_replies.proofs.HeadlineLemmas.{accepts, proves_true, violates}
use Rattle.viz_replies.proofs.reply_to.Goals as goal

pub returns-clause-accepted : goal.returns-clause-accepted
returns-clause-accepted c = IfOk-weaker c.reply_on_bytes.result _ _
    (λ r h cert asked is. accepts c.parts_hold.ensures.everywhere c.args.job.now cert c.args.question.now r.answer r.output.items h asked is) c.reply_on_bytes.ensures

pub returns-clause-proved : goal.returns-clause-proved
returns-clause-proved c = IfOk-weaker c.reply_on_bytes.result _ _
    (λ r h turns asked is. proves_true c.parts_hold.ensures.everywhere c.args.job.now turns c.args.question.now r.answer r.output.items h asked is) c.reply_on_bytes.ensures

pub returns-clause-violated : goal.returns-clause-violated
returns-clause-violated c = IfOk-weaker c.reply_on_bytes.result _ _
    (λ r h is. violates c.args.job.now c.args.question.now r.answer r.output.items h is) c.reply_on_bytes.ensures
