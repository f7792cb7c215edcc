use Rattle.std.proofs.Common.{take}
use Rattle.cert_file.specs.steps.Reads.{AreReadUpTo}
use Rattle.cert_file.proofs.reading.read_file.Given as goal

abbrev pub invariant-loop-job : goal.invariant-loop-job
invariant-loop-job l = AreReadUpTo (take l.job-index l.jobs) l.bytes l.at l.certs
