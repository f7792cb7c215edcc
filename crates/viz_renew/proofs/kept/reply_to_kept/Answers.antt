use Rattle.std.proofs.Common.{◌∙◌, length, inl, sym, subst}
use Rattle.std.proofs.lemmas.Result.{IfOk-weaker}
use Rattle.viz_renew.specs.Kept.{IsKeptReply}
use Rattle.viz_renew.specs.steps.Read.{HaveFewNodes}
use Rattle.viz_renew.proofs.FileLemmas.{as_many_read, few_read, spelled_by}
use Rattle.viz_renew.proofs.kept.reply_to_kept.Goals as goal

pub kept-reply-requires-clause-as_many : goal.kept-reply-requires-clause-as_many
kept-reply-requires-clause-as_many c =
    let read = rw c.in-Read.is at c.in_ok-jobs.ensures in
    (λ i. length (c.as_slice-theirs.ensures i)) ∙ as_many_read c.in-Read.jobs c.args.cert.now c.in-Read.certs read.read ∙ (λ i. length (sym c.as_slice-parts.ensures i))

pub kept-reply-requires-clause-few : goal.kept-reply-requires-clause-few
kept-reply-requires-clause-few c =
    let read = rw c.in-Read.is at c.in_ok-jobs.ensures in
    subst HaveFewNodes (sym c.as_slice-theirs.ensures) (few_read c.in-Read.jobs c.args.cert.now c.in-Read.certs read.read read.short)

pub returns-in-Read : goal.returns-in-Read
returns-in-Read c =
    let read = rw c.in-Read.is at c.in_ok-jobs.ensures in
    IfOk-weaker c.kept-reply.result _ _
    (λ r h. inl (spelled_by c.args.job.now c.args.cert.now c.in-Read.jobs c.in-Read.certs (λ jobs certs. IsKeptReply jobs certs r.answer r.output.items) read
    (subst (λ js. IsKeptReply js c.in-Read.certs r.answer r.output.items) c.as_slice-parts.ensures (subst (λ cs. IsKeptReply c.as_slice-parts.result.now cs r.answer r.output.items) c.as_slice-theirs.ensures h)))) c.kept-reply.ensures
