use Rattle.std.proofs.Common.{◌≡◌, drop, false}
use Rattle.std.specs.Prelude.{replicate}
use Rattle.page_boxes.specs.Seen.{all_seen}
use Rattle.page_boxes.specs.steps.Refusing.{inline_nodes}
use Rattle.page_boxes.proofs.refusals.inline_nodes.Given as goal

abbrev pub invariant-loop-part : goal.invariant-loop-part
invariant-loop-part l = inline_nodes l.table.items (all_seen (drop l.part-index l.parts)) ≡ inline_nodes (replicate l.nodes false) (all_seen l.parts)
