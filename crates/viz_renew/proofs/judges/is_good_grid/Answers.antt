use Rattle.std.proofs.lemmas.Result.{IfOk-weaker}
use Rattle.cert_semantics.specs.Nodes.{by_worlds, node_on}
use Rattle.cert_check.specs.steps.Ways.{path_at}
use Rattle.viz_renew.proofs.judges.is_good_grid.Goals as goal

pub returns : goal.returns
returns c =
    let s = c.args.descent.now in
    IfOk-weaker c.is_good.result _ _ (λ so h. h s.job.now (node_on (path_at s) by_worlds) 0 c.check_grid.ensures) c.is_good.ensures
