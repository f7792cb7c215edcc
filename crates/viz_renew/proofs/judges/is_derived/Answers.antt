use Rattle.std.proofs.lemmas.Result.{IfOk-weaker}
use Rattle.cert_semantics.specs.Nodes.{states, node_on}
use Rattle.cert_check.specs.steps.Ways.{path_at}
use Rattle.viz_renew.proofs.Marks.{derived_found}
use Rattle.viz_renew.proofs.judges.is_derived.Goals as goal

pub returns : goal.returns
returns c =
    let s = c.args.descent.now in
    let path = path_at s in
    IfOk-weaker c.is_good.result _ _
    (λ so h. derived_found s.job.now path c.args.row.now c.args.why.now so (h s.job.now (node_on path (states c.args.row.now c.args.why.now)) 0 c.check_lemma.ensures)) c.is_good.ensures
