use Rattle.std.proofs.Common.{◌≡◌, ◌+◌, bytes_eq, drop}
use Rattle.std.specs.List.{position_or_len}
use Rattle.vis_read.proofs.stacks.Stack+Text.above.Given as goal

abbrev pub invariant-loop-above : goal.invariant-loop-above
invariant-loop-above l = l.above + position_or_len (λ other. bytes_eq other l.text) (drop l.above l.self) ≡ position_or_len (λ other. bytes_eq other l.text) l.self
