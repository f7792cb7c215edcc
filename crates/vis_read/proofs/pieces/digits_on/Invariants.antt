use Rattle.std.proofs.Common.{◌≡◌, ◌+◌, drop}
use Rattle.vis_read.specs.steps.Scan.{digits_on}
use Rattle.vis_read.proofs.pieces.digits_on.Given as goal

abbrev pub invariant-loop-at : goal.invariant-loop-at
invariant-loop-at l = record {
  value : (digits_on l.number (drop l.at l.bytes)).0 ≡ (digits_on l.first l.bytes).0;
  count : l.at + (digits_on l.number (drop l.at l.bytes)).1 ≡ (digits_on l.first l.bytes).1;
}
