use Rattle.std.proofs.Common.{◌≡◌, ◌≤◌, ◌^◌, ◌+◌, drop}
use Rattle.viz_base.specs.Decimals.{read_digits}
use Rattle.viz_base.proofs.decimals.read_after.Given as goal

abbrev pub invariant-loop-digit : goal.invariant-loop-digit
invariant-loop-digit l = (l.total ≤ 2 ^ 40 + 1) × (read_digits l.total (drop l.digit-index l.digits) ≡ read_digits l.value l.digits)
