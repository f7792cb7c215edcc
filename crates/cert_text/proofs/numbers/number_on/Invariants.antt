use Rattle.std.proofs.Common.{◌≡◌, ◌≤◌, length}
use Rattle.cert_text.specs.steps.Numbers.{number_on}
use Rattle.cert_text.proofs.numbers.number_on.Given as goal

abbrev pub invariant-loop-byte : goal.invariant-loop-byte
invariant-loop-byte l = record {
  most : l.number ≤ l.most;
  same : number_on l.ends l.least l.most l.fn.number l.initial.cursor.rest.now ≡ number_on l.ends l.least l.most l.number l.cursor.rest.now;
}

abbrev pub decreases-loop-byte : goal.decreases-loop-byte
decreases-loop-byte l = length l.cursor.rest.now
