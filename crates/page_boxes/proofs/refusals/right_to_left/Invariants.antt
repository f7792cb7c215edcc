use Rattle.std.proofs.Common.{◌≡◌, drop}
use Rattle.page_boxes.specs.Seen.{all_seen}
use Rattle.page_boxes.specs.steps.Refusing.{turned}
use Rattle.page_boxes.proofs.refusals.right_to_left.Given as goal

abbrev pub invariant-loop-part : goal.invariant-loop-part
invariant-loop-part l = turned (all_seen (drop l.part-index l.parts)) ≡ turned (all_seen l.parts)
