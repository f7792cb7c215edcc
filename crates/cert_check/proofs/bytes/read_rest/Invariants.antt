use Rattle.std.proofs.Common.{length}
use Rattle.cert_check.proofs.Findings.{IsLater}
use Rattle.cert_check.proofs.bytes.read_rest.Given as goal

abbrev pub invariant-rest : goal.invariant-rest
invariant-rest l = IsLater l.fn.reader l.reader

abbrev pub decreases-rest : goal.decreases-rest
decreases-rest l = length l.reader.rest
