use Rattle.std.proofs.Common.{subst}
use Rattle.cert_check.specs.steps.Stream.{IsFound}
use Rattle.cert_check.proofs.Findings.{found_all, rejected_all}
use Rattle.cert_check.proofs.bytes.judge_whole.Goals as goal

pub returns-in-Accepted-clause-found : goal.returns-in-Accepted-clause-found
returns-in-Accepted-clause-found c =
    let job = c.args.job.now in
    let reading = c.judge.new.reader in
    found_all job reading (subst (IsFound job reading) c.in-Accepted.is c.in_ok-judge.ensures.found)

pub returns-in_ok-read_rest-in-Rejected-clause-found : goal.returns-in_ok-read_rest-in-Rejected-clause-found
returns-in_ok-read_rest-in-Rejected-clause-found c =
    let job = c.args.job.now in
    let reading = c.judge.new.reader in
    let found = subst (IsFound job reading) c.in-Rejected.is c.in_ok-judge.ensures.found in
    rejected_all job reading c.read_rest.new.reader c.in-Rejected.reject found c.in_ok-read_rest-in-Rejected.ensures.rest
