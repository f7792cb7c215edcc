use Rattle.std.proofs.Common.{◌≡◌, drop}
use Rattle.page_boxes.specs.Seen.{all_seen}
use Rattle.page_boxes.specs.steps.Refusing.{block_in}
use Rattle.page_boxes.proofs.refusals.block_in_inline.Given as goal

abbrev pub invariant-loop-part : goal.invariant-loop-part
invariant-loop-part l = block_in l.table.items (all_seen (drop l.part-index l.parts)) ≡ block_in l.table.items (all_seen l.parts)
