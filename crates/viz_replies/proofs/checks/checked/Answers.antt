use Rattle.std.proofs.Common.{◌≤◌, length, arith}
use Rattle.std.proofs.lemmas.Result.{IfOk-weaker}
use Rattle.viz_replies.proofs.ReplyLemmas.{checks}
use Rattle.viz_replies.proofs.checks.checked.Goals as goal

pub returns : goal.returns
returns c =
    let short : length c.args.bytes.now ≤ 67108864 = omega arith in
    IfOk-weaker c.verdict_reply.result _ _
    (λ r h. checks c.args.jobs.now c.args.bytes.now c.in_ok-verdict.verdict r.answer r.output.items short c.in_ok-verdict.ensures h) c.verdict_reply.ensures
