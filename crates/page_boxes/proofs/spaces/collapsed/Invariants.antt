use Rattle.std.proofs.Common.{◌≡◌, ◌++◌, drop, false}
use Rattle.std.specs.Prelude.{replicate}
use Rattle.page_boxes.specs.Seen.{all_seen}
use Rattle.page_boxes.specs.steps.Spaces.{spaces_walk}
use Rattle.page_boxes.proofs.spaces.collapsed.Given as goal

abbrev pub invariant-loop-part : goal.invariant-loop-part
invariant-loop-part l = all_seen l.kept.items ++ spaces_walk l.table.items (all_seen (drop l.part-index l.parts)) ≡ spaces_walk (replicate l.nodes false) (all_seen l.parts)
