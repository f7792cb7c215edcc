use Rattle.std.proofs.Common.{take}
use Rattle.cert_file.specs.steps.UpTo.{IsUpTo}
use Rattle.cert_file.proofs.checking.check_file.Given as goal

abbrev pub invariant-loop-number : goal.invariant-loop-number
invariant-loop-number l = IsUpTo (take l.number l.jobs) l.bytes l.at l.wrong
