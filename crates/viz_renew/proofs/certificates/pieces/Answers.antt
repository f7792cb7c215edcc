use Rattle.std.proofs.Common.{◌≡◌, refl, sym, ap, subst}
use Rattle.std.proofs.lemmas.Result.{IfOk-weaker}
use Rattle.viz_base.specs.declared.jobs.Job.{Job}
use Rattle.cert_text.specs.Nodes.{node_count}
use Rattle.cert_semantics.specs.Nodes.{nodes_from}
use Rattle.cert_semantics.specs.Paths.{root}
use Rattle.cert_check.specs.steps.Descent.{path_of}
use Rattle.cert_check.specs.steps.Ways.{path_at}
use Rattle.viz_renew.specs.Pieces.{Keeps, nothing}
use Rattle.viz_renew.specs.steps.Bare.{bare}
use Rattle.viz_renew.proofs.Heres.{here_first}
use Rattle.viz_renew.proofs.certificates.pieces.Goals as goal

pub keep_node-requires : goal.keep_node-requires
keep_node-requires c =
    let d = c.in_ok-descent in
    here_first c.args.job.now d.descent _ (node_count c.args.cert.now.root) d.ensures.job d.ensures.above refl c.requires.few

pub returns : goal.returns
returns c =
    let d = c.in_ok-descent in
    let at : path_at d.descent ≡ root c.args.job.now.form = λ i. path_of (d.ensures.job i).form (d.ensures.above i) in
    IfOk-weaker c.keep_node.result _ _
    (λ next h. subst (λ (j : Job). Keeps j (nodes_from c.args.cert.now.root (root c.args.job.now.form)) nothing next) d.ensures.job
    (subst (λ k. Keeps d.descent.job.now (nodes_from c.args.cert.now.root (root c.args.job.now.form)) k next) c.nothing.ensures (h (root c.args.job.now.form) (ap bare (sym at)) refl))) c.keep_node.ensures.keeps
