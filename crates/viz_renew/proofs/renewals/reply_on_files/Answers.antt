use Rattle.std.proofs.Common.{inl, sym, subst}
use Rattle.std.proofs.lemmas.Result.{IfOk-weaker}
use Rattle.viz_renew.specs.Renewals.{IsRenewal}
use Rattle.viz_renew.specs.steps.Read.{CanRenew}
use Rattle.viz_renew.proofs.FileLemmas.{can_renew, spelled_by}
use Rattle.viz_renew.proofs.renewals.reply_on_files.Goals as goal

pub renewed-reply-requires : goal.renewed-reply-requires
renewed-reply-requires c =
    let read = rw c.in-Read.is at c.in_ok-jobs.ensures in
    let can = can_renew c.args.job.now c.args.cert.now c.in-Read.jobs c.in-Read.certs read in
    subst (λ js. CanRenew c.args.job.now js c.as_slice-theirs.result.now) (sym c.as_slice-parts.ensures) (subst (CanRenew c.args.job.now c.in-Read.jobs) (sym c.as_slice-theirs.ensures) can)

pub returns-in-Read : goal.returns-in-Read
returns-in-Read c =
    let read = rw c.in-Read.is at c.in_ok-jobs.ensures in
    IfOk-weaker c.renewed-reply.result _ _
    (λ r h. inl (spelled_by c.args.job.now c.args.cert.now c.in-Read.jobs c.in-Read.certs (λ jobs certs. IsRenewal c.args.job.now jobs certs c.args.turns r.answer r.output.items) read
    (subst (λ js. IsRenewal c.args.job.now js c.in-Read.certs c.args.turns r.answer r.output.items) c.as_slice-parts.ensures
    (subst (λ cs. IsRenewal c.args.job.now c.as_slice-parts.result.now cs c.args.turns r.answer r.output.items) c.as_slice-theirs.ensures h)))) c.renewed-reply.ensures
