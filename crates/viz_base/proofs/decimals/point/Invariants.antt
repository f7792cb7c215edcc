use Rattle.std.proofs.Common.{◌≡◌, ◌+◌, drop}
use Rattle.std.specs.List.{position_or_len}
use Rattle.viz_base.specs.Decimals.{is_point}
use Rattle.viz_base.proofs.decimals.point.Given as goal

abbrev pub invariant-loop-at : goal.invariant-loop-at
invariant-loop-at l = l.at + position_or_len is_point (drop l.at l.text) ≡ position_or_len is_point l.text
