use Rattle.std.proofs.Common.{◌≡◌, ◌++◌, [], drop}
use Rattle.page_boxes.specs.Seen.{all_seen}
use Rattle.page_boxes.specs.steps.Nodes.{nodes_walk}
use Rattle.page_boxes.proofs.nodes.shown_parts.Given as goal

abbrev pub invariant-loop-at : goal.invariant-loop-at
invariant-loop-at l = all_seen l.parts.items ++ nodes_walk l.spots.items l.at (drop l.at l.nodes) (drop l.at l.styles) ≡ nodes_walk [] 0 l.nodes l.styles
