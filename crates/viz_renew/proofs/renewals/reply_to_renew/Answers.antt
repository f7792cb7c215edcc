use Rattle.std.proofs.lemmas.Result.{IfOk-weaker}
use Rattle.viz_renew.proofs.RenewLemmas.{renews_true, renews_false}
use Rattle.viz_renew.proofs.renewals.reply_to_renew.Goals as goal

pub returns-clause-proved : goal.returns-clause-proved
returns-clause-proved c = IfOk-weaker c.reply_on_files.result _ _
    (λ r h is. renews_true c.args.job.now c.args.turns r.answer r.output.items c.parts_hold.ensures.everywhere c.args.cert.now h is) c.reply_on_files.ensures

pub returns-clause-violated : goal.returns-clause-violated
returns-clause-violated c = IfOk-weaker c.reply_on_files.result _ _
    (λ r h is. renews_false c.args.job.now c.args.turns r.answer r.output.items c.args.cert.now h is) c.reply_on_files.ensures
