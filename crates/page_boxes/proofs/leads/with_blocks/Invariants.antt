use Rattle.std.proofs.Common.{◌≡◌, drop, false}
use Rattle.std.specs.Prelude.{replicate}
use Rattle.page_boxes.specs.Seen.{all_seen}
use Rattle.page_boxes.specs.steps.Leads.{with_blocks}
use Rattle.page_boxes.proofs.leads.with_blocks.Given as goal

abbrev pub invariant-loop-part : goal.invariant-loop-part
invariant-loop-part l = with_blocks l.table.items (all_seen (drop l.part-index l.parts)) ≡ with_blocks (replicate l.nodes false) (all_seen l.parts)
