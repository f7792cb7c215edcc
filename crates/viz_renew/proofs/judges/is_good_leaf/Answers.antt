use Rattle.std.proofs.lemmas.Result.{IfOk-weaker}
use Rattle.cert_semantics.specs.Nodes.{by_answers, node_on}
use Rattle.cert_check.specs.steps.Ways.{path_at}
use Rattle.viz_renew.proofs.judges.is_good_leaf.Goals as goal

pub returns : goal.returns
returns c =
    let s = c.args.descent.now in
    IfOk-weaker c.is_good.result _ _ (λ so h. h s.job.now (node_on (path_at s) (by_answers c.args.answers.now)) 0 c.check_answers.ensures) c.is_good.ensures
