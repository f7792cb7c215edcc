use Rattle.std.proofs.Common.{◌≡◌, ◌+◌, drop}
use Rattle.std.specs.List.{prefix_len}
use Rattle.viz_tables.specs.Lists.{is_name_byte}
use Rattle.viz_tables.proofs.rule_lines.name_len.Given as goal

abbrev pub invariant-loop-at : goal.invariant-loop-at
invariant-loop-at l = l.at + prefix_len is_name_byte (drop l.at l.line) ≡ prefix_len is_name_byte l.line
