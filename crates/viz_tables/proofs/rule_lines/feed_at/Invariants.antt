use Rattle.std.proofs.Common.{◌≡◌, ◌+◌, drop}
use Rattle.std.specs.List.{position_or_len}
use Rattle.viz_tables.specs.Lists.{is_feed}
use Rattle.viz_tables.proofs.rule_lines.feed_at.Given as goal

abbrev pub invariant-loop-at : goal.invariant-loop-at
invariant-loop-at l = l.at + position_or_len is_feed (drop l.at l.bytes) ≡ position_or_len is_feed l.bytes
