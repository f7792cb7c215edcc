use Rattle.std.proofs.Common.{arith}
use Rattle.prove_search.proofs.Counts.{few_nodes}
use Rattle.prove_search.proofs.Judged.{passes_proves}
use Rattle.prove_search.proofs.gates.gated.Goals as goal

pub check-requires : goal.check-requires
check-requires c =
    let bounds = rw c.in-Some.is at c.in_ok-text.ensures in
    record { few = few_nodes c.args.job.now.form c.args.cert.now c.in-Some.text.items bounds.spelled (omega (arith, bounds.short)) }

pub returns-in-Accepted-clause-outcome : goal.returns-in-Accepted-clause-outcome
returns-in-Accepted-clause-outcome c =
    let bounds = rw c.in-Some.is at c.in_ok-text.ensures in
    let passes = rw c.in-Accepted.is at c.in_ok-check.ensures.verdict in
    record {
      cert = c.args.cert.now;
      proof = passes_proves c.args.job.now c.args.turns c.args.most c.args.cert.now c.in-Some.text.items bounds passes;
      spelled = bounds.spelled;
    }
