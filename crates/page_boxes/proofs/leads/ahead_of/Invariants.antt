use Rattle.std.proofs.Common.{◌≡◌, drop, false, length}
use Rattle.std.specs.Prelude.{replicate}
use Rattle.page_boxes.specs.Seen.{all_seen}
use Rattle.page_boxes.specs.steps.Leads.{ahead_table, ahead_of}
use Rattle.page_boxes.proofs.leads.ahead_of.Given as goal

abbrev pub invariant-loop-at : goal.invariant-loop-at
invariant-loop-at l = (l.table.items ≡ ahead_table (replicate l.nodes false) (all_seen (drop l.at l.parts))) × (drop l.at l.ahead.items ≡ ahead_of (replicate l.nodes false) (all_seen (drop l.at l.parts))) × (length l.ahead.items ≡ length l.parts)
