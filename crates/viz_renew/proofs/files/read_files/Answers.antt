use Rattle.std.proofs.Common.{◌≤◌, length, arith}
use Rattle.viz_renew.proofs.FileLemmas.{refused_job}
use Rattle.viz_renew.proofs.files.read_files.Goals as goal

pub returns-in-Refused : goal.returns-in-Refused
returns-in-Refused c =
    let refusal = rw c.in-Refused.is at c.in_ok-jobs.ensures in
    let short : length c.args.job.now ≤ 16777216 = omega arith in
    let few : length c.args.cert.now ≤ 67108864 = omega arith in
    refused_job c.args.job.now c.args.cert.now c.in-Refused.reply.answer c.in-Refused.reply.output.items short few refusal
