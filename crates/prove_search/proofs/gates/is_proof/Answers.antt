use Rattle.std.proofs.Common.{arith}
use Rattle.prove_search.proofs.Counts.{few_nodes}
use Rattle.prove_search.proofs.gates.is_proof.Goals as goal

pub check-requires : goal.check-requires
check-requires c =
    let bounds = rw c.in-Some.is at c.in_ok-_text.ensures in
    record { few = few_nodes c.args.job.now.form c.args.cert.now c.in-Some._text.items bounds.spelled (omega (arith, bounds.short)) }
